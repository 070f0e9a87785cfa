use Rattle.std.proofs.Common.{◌≡◌, ◌-◌, length, get_or, sym, ap, ◌∙◌, arith, rules}
use Rattle.pooling.specs.Pooling.{answered}
use Rattle.pooling.proofs.Answered.{accepted}
use Rattle.releases.specs.Limits.{row_count}
use Rattle.releases.specs.Sheets.{row_ratio, row_refusal, row_noted}
use Rattle.releases.proofs.Notes.{refusal_is, rows_noted}
use Rattle.releases.proofs.sheets.ReleaseSheet.note.Goals as goal

pub returns : goal.returns
returns c =
    let a = c.args in
    let seen = c.index-self-at.result in
    let row = get_or a.self.now.rows (a.release - 1) seen in
    let full : length a.self.now.rows ≡ row_count = search rules in
    let made = accepted (row_refusal (row_ratio row) a.successes a.trials) (row_noted (row_ratio row) a.successes a.trials) _ c.in_ok-self.ensures in
    let due = refusal_is a.self.now.rows a.release a.successes a.trials seen full (omega arith) (omega arith) in
    record {
      answer = ap (λ q. answered q tt) (sym (due ∙ made.0));
      rows = rows_noted a.self.now.rows a.release a.successes a.trials seen full (omega arith) (omega arith) c.in_ok-self.field-0 made.0 made.1;
    }
