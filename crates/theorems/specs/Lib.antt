-- All that is claimed: the demands as theorems, each stated in English at the head of its file. Of the public functions, said of every answer
-- that their contracts permit: OneAnswer, Singleton, Combination, Consensus, BothSteps and Agreement over Operations, Calls (Demand 2), Expressions (Demand 3),
-- WgslCalls, TextFunctions. Of the definitions that the contracts cite, over any database of rules: Expands, Steps, Demand2, FirstPass, Demand3, Measured,
-- Readings; of preference by WGSL's ranks, Wgsl, WgslLists, WgslRegulars and WgslHandMade; of texts, Texts and TextReadings. The others are words
-- that statements share.
pub mod ByContract
pub mod Known
pub mod InOrder
pub mod OneAnswer
pub mod Singleton
pub mod Combination
pub mod Consensus
pub mod Operations
pub mod Expands
pub mod Steps
pub mod BothSteps
pub mod Agreement
pub mod Taking
pub mod Demand2
pub mod Calls
pub mod FirstPass
pub mod Meaning
pub mod Fault
pub mod Demand3
pub mod Expressions
pub mod Measured
pub mod Wgsl
pub mod WgslLists
pub mod WgslRegulars
pub mod WgslCalls
pub mod WgslHandMade
pub mod Readings
pub mod Texts
pub mod TextFunctions
pub mod TextReadings
