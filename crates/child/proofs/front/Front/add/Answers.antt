use Rattle.std.proofs.Common.{◌≡◌, ◌-◌, length, refl, arith}
use Rattle.std.proofs.lemmas.Grind.{common_steps}
use Rattle.child.specs.Shown.{most_shown}
use Rattle.child.proofs.FrontLemmas.{IsFrontOf-cut, IsFrontOf-more}
use Rattle.child.proofs.front.Front.add.Goals as goal

pub returns-in_ok-extend_from_slice : goal.returns-in_ok-extend_from_slice
returns-in_ok-extend_from_slice c = λ text is.
    let room_is : c.saturating_sub-room.result ≡ most_shown - length c.args.self.now.bytes.items = grind (arith, common_steps) in
    IsFrontOf-cut text c.args.more.now c.args.self.now _ c.saturating_sub-room.result is room_is (omega (arith, c.if-more-room.true)) (c.in_ok-extend_from_slice.ensures.items) refl

pub returns-in_ok-extend_from_slice-2 : goal.returns-in_ok-extend_from_slice-2
returns-in_ok-extend_from_slice-2 c = λ text is.
    let room_is : c.saturating_sub-room.result ≡ most_shown - length c.args.self.now.bytes.items = grind (arith, common_steps) in
    IsFrontOf-more text c.args.more.now c.args.self.now _ c.saturating_sub-room.result is room_is (omega (arith, c.if-more-room.false)) (c.in_ok-extend_from_slice-2.ensures.items) refl
