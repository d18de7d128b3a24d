-- How many bytes are made of a text, and of a worksheet, is at most the length of the buffer that was lent for them.
use Rattle.std.proofs.Common.{false, sym, arith}
use lib.Seq.{length-take-le}
use Rattle.text.proofs.Fits.{read_fits}
use Rattle.typer.proofs.Fits.{sheet_fits}
use Rattle.typer.proofs.typed.Goals as goal

pub returns-then-not-is_text : goal.returns-then-not-is_text
returns-then-not-is_text c = sheet_fits _ false c.args.input.now c.args.sheet.now _ (sym c.type_expression.auto.out) c.type_expression.ensures.answer

pub slice_bounds-type_expression-end : goal.slice_bounds-type_expression-end
slice_bounds-type_expression-end c =
    sym (length-take-le c.in_ok-len.len c.read_text.new.out (omega (arith, read_fits c.args.input.now 4096 _ c.in_ok-len.ensures.answer, c.read_text.auto.out)))

pub returns : goal.returns
returns c = sheet_fits _ false _ c.args.sheet.now _ (sym c.type_expression-2.auto.out) c.type_expression-2.ensures.answer
