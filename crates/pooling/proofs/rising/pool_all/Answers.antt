use Rattle.std.proofs.Common.{◌≡◌, ◌≤◌, List, length, sym, refl, ap, ◌∙◌, arith, rules}
use Rattle.isotonic.specs.declared.blocks.Block.{Block}
use Rattle.isotonic.specs.MaxMin.{rising_blocks}
use Rattle.pooling.specs.Pooling.{fitted_memory}
use Rattle.pooling.proofs.Filled.{fill_start, fill_more, fill_count, fill_memory}
use Rattle.pooling.proofs.rising.pool_all.Goals as goal

pub loop-i-init : goal.loop-i-init
loop-i-init g c = (fill_start c.args.pieces.now c.new-stack.result.blocks.now c.new-stack.result.height c.new-stack.ensures.height, refl)

pub loop-i-preserved : goal.loop-i-preserved
loop-i-preserved g c =
    let room : length c.args.pieces.now ≤ length c.new-stack.result.blocks.now = omega (arith, c.requires.room, ap length c.new-stack.ensures.memory) in
    let put = c.put.ensures in (
      fill_more c.args.pieces.now c.new-stack.result.blocks.now room c.loop-i.stack.blocks.now c.loop-i.stack.height c.loop-i.i c.loop-i.invariant.0
          c.index-pieces-i.result c.put.new.self.height c.put.new.self.blocks.now c.loop-i-test.true c.index-pieces-i.is put.height put.memory,
      put.named ∙ c.loop-i.invariant.1,
    )

pub returns : goal.returns
returns g c =
    let m = g.K.Poolable in
    let ps = c.args.pieces.now in
    let before = c.args.blocks.now in
    let ms = c.loop-i.stack.blocks.now in
    let made = c.new-stack.ensures in
    let room : length ps ≤ length c.new-stack.result.blocks.now = omega (arith, c.requires.room, ap length made.memory) in
    let all : c.loop-i.i ≡ length ps = omega arith in
    let filled = c.loop-i.invariant.0 in
    let laws = g.met.K.Poolable.lawful in
    let count = fill_count ps c.new-stack.result.blocks.now room ms c.loop-i.stack.height c.loop-i.i filled laws c.requires.light all in
    let memory : ms ≡ fitted_memory (rising_blocks m.leq m.joined ps) (length ps) before ms =
    fill_memory ps c.new-stack.result.blocks.now room ms c.loop-i.stack.height c.loop-i.i filled laws c.requires.light all
    ∙ ap (λ (b : List (Block g.row.K.Denot)). fitted_memory (rising_blocks m.leq m.joined ps) (length ps) b ms) made.memory in
    let named = sym made.named ∙ sym c.loop-i.invariant.1 in
    record { count = c.height.ensures ∙ count; memory = search rules }
