use Rattle.std.proofs.Common.{◌≡◌, ap}
use Rattle.std.proofs.lemmas.Result.{err_from_is_err_and}
use Rattle.lines.specs.Fields.{pieces_left}
use Rattle.portfolio_lines.specs.Lines.{investee_of, held_line}
use Rattle.portfolio_lines.proofs.Counts.{few-fields}
use Rattle.portfolio_lines.proofs.Held.{line-wrong, line-surplus, line_read}
use Rattle.portfolio_lines.proofs.Investees.{investee-line, investee-reads}
use Rattle.portfolio_lines.proofs.Places.{investee-refuses}
use Rattle.portfolio_lines.proofs.investee.read_investee.Goals as goal

pub returns-in_err-entry-clause-value : goal.returns-in_err-entry-clause-value
returns-in_err-entry-clause-value c =
    let p = err_from_is_err_and c.from_residual.result c.from_residual.ensures.1 in
    rw (p.1, p.2) (line-wrong c.args.line.now (record { place = 1; left = pieces_left c.new.result.separator c.new.result.rest }) _ c.if-line-gt-MOST_BYTES.false (ap (λ l. record { place = 1; left = l }) c.new.ensures.pieces) c.in_err-entry.ensures)

pub returns-clause-value : goal.returns-clause-value
returns-clause-value c =
    line_read c.args.line.now (record { place = 1; left = pieces_left c.new.result.separator c.new.result.rest }) _ _ _ c.if-line-gt-MOST_BYTES.false (ap (λ l. record { place = 1; left = l }) c.new.ensures.pieces) c.in_ok-entry.ensures c.in_ok-end.ensures

pub invariant_of-fields : goal.invariant_of-fields
invariant_of-fields c = record { countable = few-fields c.args.line.now _ c.new.ensures.pieces c.if-line-gt-MOST_BYTES.false }

pub returns-in_err-entry-clause-lines : goal.returns-in_err-entry-clause-lines
returns-in_err-entry-clause-lines c = λ e. (investee-line c.args.line.now e, investee-reads c.args.line.now e)

pub returns-in_err-end-clause-lines : goal.returns-in_err-end-clause-lines
returns-in_err-end-clause-lines c = λ e. (investee-line c.args.line.now e, investee-reads c.args.line.now e)

pub returns-clause-lines : goal.returns-clause-lines
returns-clause-lines c = λ e. (investee-line c.args.line.now e, investee-reads c.args.line.now e)

pub returns-in_err-entry-clause-refuses : goal.returns-in_err-entry-clause-refuses
returns-in_err-entry-clause-refuses c = investee-refuses c.args.line.now _ (returns-in_err-entry-clause-value c)

pub returns-in_err-end-clause-refuses : goal.returns-in_err-end-clause-refuses
returns-in_err-end-clause-refuses c =
    let p = err_from_is_err_and c.from_residual-in_err-end.result c.from_residual-in_err-end.ensures.1 in
    let value : c.from_residual-in_err-end.result ≡ held_line (investee_of c.args.line.now) =
    rw (p.1, p.2) (line-surplus c.args.line.now (record { place = 1; left = pieces_left c.new.result.separator c.new.result.rest }) _ _ _ c.if-line-gt-MOST_BYTES.false (ap (λ l. record { place = 1; left = l }) c.new.ensures.pieces) c.in_ok-entry.ensures c.in_err-end.ensures) in
    investee-refuses c.args.line.now _ value

pub returns-clause-refuses : goal.returns-clause-refuses
returns-clause-refuses c = investee-refuses c.args.line.now _ (returns-clause-value c)
