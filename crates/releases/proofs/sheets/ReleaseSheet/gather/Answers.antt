use Rattle.std.proofs.Common.{◌≡◌, ◌+◌, [], ◌∷◌, ◌++◌, ◌<◌, length, sym, ap, ◌∙◌, rules}
use Rattle.std.specs.Option.{option_map}
use Rattle.pooling.specs.Kinds.{share_ratio}
use Rattle.releases.specs.declared.rows.Row.{Row}
use Rattle.releases.specs.Sheets.{row_ratio, row_share}
use Rattle.releases.specs.Pieces.{piece_releases}
use Rattle.releases.proofs.Gathered.{gather_skip, gather_take}
use Rattle.releases.proofs.sheets.ReleaseSheet.gather.Goals as goal
use Rattle.releases.proofs.sheets.ReleaseSheet.gather.Goals.{in-Some, in_default}

pub loop-i-preserved : goal.loop-i-preserved
loop-i-preserved c =
    let l = c.loop-i in
    let rows = c.args.self.now.rows in
    let row = c.row-item.result in
    let within : l.i < length rows = search rules in
    let told = c.share.ensures ∙ ap (λ (r : Row). row_share (row_ratio r)) (sym c.row-item.is) in
    elim c.match-share.branch [
      | in-Some w ↦
          let some = ap (option_map share_ratio) (sym w.in-Some.is) ∙ told in
          let put = w.push.ensures in
          let releases : piece_releases w.push.new.self ≡ piece_releases l.pieces ++ ((l.i + 1) ∷ []) = search rules in
          rw w.pieces-is (gather_take rows l.i row within c.row-item.is l.pieces l.invariant w.in-Some.share w.push.new.self some put.count put.shares releases)
      | in_default w ↦ rw w.pieces-is (gather_skip rows l.i row within c.row-item.is l.pieces l.invariant (search rules))
    ]
