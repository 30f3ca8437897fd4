use Rattle.std.proofs.Common.{◌∙◌, refl, subst, sym}
use Rattle.il_ring.specs.Books.{IsHeld}
use Rattle.il_ring.proofs.SendLaws.{relay_counts, relay_keeps, relayed_round, relay_told}
use Rattle.il_ring.proofs.running.Running.relay.Goals as goal

pub returns-clause-round : goal.returns-clause-round
returns-clause-round g c = λ under. relayed_round g.M.Medium.view _ _ _ _ _ refl (sym c.flight.ensures.flight ∙ c.unwrap-flight.ensures) (subst IsHeld c.unwrap-flight.ensures c.flight.ensures.held) c.round_on-arrival.ensures under

pub returns-clause-relayed : goal.returns-clause-relayed
returns-clause-relayed g c = λ under ring. relay_told g.M.Medium.view _ _ _ _ (relayed_round g.M.Medium.view _ _ _ _ _ refl (sym c.flight.ensures.flight ∙ c.unwrap-flight.ensures) (subst IsHeld c.unwrap-flight.ensures c.flight.ensures.held) c.round_on-arrival.ensures under) ring

pub returns-clause-counts : goal.returns-clause-counts
returns-clause-counts g c = λ under. relay_counts g.M.Medium.view _ _ _ _ (relayed_round g.M.Medium.view _ _ _ _ _ refl (sym c.flight.ensures.flight ∙ c.unwrap-flight.ensures) (subst IsHeld c.unwrap-flight.ensures c.flight.ensures.held) c.round_on-arrival.ensures under)

pub returns-clause-kept : goal.returns-clause-kept
returns-clause-kept g c = λ under. relay_keeps g.M.Medium.view _ _ _ _ _ refl (sym c.flight.ensures.flight ∙ c.unwrap-flight.ensures) (subst IsHeld c.unwrap-flight.ensures c.flight.ensures.held) c.round_on-arrival.ensures under
