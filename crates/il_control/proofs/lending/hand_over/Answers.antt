use Rattle.std.proofs.Common.{refl, sym}
use Rattle.il_control.proofs.LendCalls.{hand_lost, hand_not, hand_taken}
use Rattle.il_control.proofs.lending.hand_over.Goals as goal

pub returns-in-Lost : goal.returns-in-Lost
returns-in-Lost g c = hand_lost g.M.Medium.view _ _ _ _ c.of.ensures.value c.requires.free c.requires.host c.in-Lost.ensures.round c.in-Lost.ensures.handed c.in-Lost.ensures.lent refl

pub returns-then-is_lent : goal.returns-then-is_lent
returns-then-is_lent g c = hand_taken g.M.Medium.view _ _ _ _ c.of.ensures.value c.requires.free c.requires.host c.in-Frame.ensures.round c.in-Frame.ensures.handed c.in-Frame.ensures.lent _ refl (sym c.if-is_lent.ensures)

pub returns-else-is_lent : goal.returns-else-is_lent
returns-else-is_lent g c = hand_not g.M.Medium.view _ _ _ _ c.of.ensures.value c.requires.free c.requires.host c.in-Frame.ensures.round c.in-Frame.ensures.handed c.in-Frame.ensures.lent _ refl (sym c.if-is_lent.ensures)
