-- The exchanges of a command over the loop, by what its calls tell of them.
use Rattle.std.proofs.Common.{◌≡◌, ◌+◌, ◌∙◌, ℕ, Bool, true, false, not, List, [], ◌∷◌, length, Option, Some, None, refl, sym, ap, subst, arith}
use Rattle.std.specs.List.{list_all}
use Rattle.lif_model.specs.Tape.{Tape}
use Rattle.il_ports.specs.Media.{MediumView}
use Rattle.loop_model.specs.Effect.{UnitsEffect, ends_as}
use Rattle.loop_model.specs.Exchanges.{Piece, is_piece}
use Rattle.loop_model.specs.Reach.{met}
use Rattle.loop_model.specs.Units.{units_of, ends_within}
use Rattle.loop_model.proofs.ReachLaws.{length-met}
use Rattle.il_ring.specs.Outcomes.{met_between}
use Rattle.il_ring.specs.Rings.{RingView}
use Rattle.il_control.specs.Calls.{loop_of}
use Rattle.il_record.specs.Came.{CameBy}
use Rattle.il_script.specs.declared.reply.Reply.{Reply}
use Rattle.host_model.specs.Requests.{Item, is_of_volume}
use Rattle.host_model.specs.LoopStates.{ring_of}
use Rattle.host_model.specs.HostStates.{volume_at}
use Rattle.host_model.specs.RingStates.{loop_on, state_on}
use Rattle.host_model.specs.Courses.{begins_with, cleared_first, course_of, keeps_course}
use Rattle.host_model.specs.Steps.{Exchanged, HasReplyCause, IsCarried, OnTapes, is_frame_fault}
use Rattle.host_model.proofs.RingStates.{ring_on}
use Rattle.il_host.proofs.CommandTravels.{event_by, log_came}

-- no hop comes after a count and not after it
pub met_none : (hops : List ℕ) (count : ℕ) → met hops count count ≡ []
met_none hops count = empty (met hops count count) (length-met hops count count count (omega arith) (omega arith))
  where
    empty : (found : List ℕ) → length found ≡ length found + length found → found ≡ []
    empty [] twice = refl
    empty (hop ∷ found) twice = absurd (omega (arith, twice))

-- what is told of each tape before is told of the two
pub on_tapes : (was now : Option Tape) (P : Tape → Tape → Type 0) → ((t : Tape) → was ≡ Some t → (u : Tape) × (now ≡ Some u) × P t u) → OnTapes was now P
on_tapes None now P told = tt
on_tapes (Some t) now P told = let u = told t refl in subst (λ now. OnTapes (Some t) now P) (sym u.1) u.2

-- the units of the exchanges, and what a command of this reply is to say of them
pub record SaysOf {M : Type 0} (view : M → MediumView) (item : Item) (reply : Reply) (was sound : Bool) (r s : RingView M) (pieces : List Piece) : Type 0 where
  pub course : keeps_course (loop_on r) was (course_of item (loop_on r)) pieces ≡ true
  pub begins : is_of_volume item ≡ true → begins_with (cleared_first (loop_on r) was sound) pieces ≡ true
  pub cause : HasReplyCause reply (met_between r s) (view r.drive.medium).faults (view s.drive.medium).faults (units_of (loop_of r) pieces)
  pub carried : IsCarried item reply (view r.drive.medium).record_count (volume_at (state_on view was sound r)) (units_of (loop_of r) pieces)

-- a command by exchanges, whole or broken off
pub exchanged_came : {M : Type 0} (view : M → MediumView) (item : Item) (reply : Reply) (was is sound sound_now whole : Bool) (r s : RingView M) → r.books.log ≡ []
    → (came : CameBy view whole r s) → not (is_frame_fault reply) ≡ whole → SaysOf view item reply was sound r s came.pieces
    → Exchanged (r.books.plan) (event_by view item reply was is sound sound_now r s)
exchanged_came {M} view item reply was is sound sound_now whole r s empty came ends says =
    let pieces = came.pieces in
    let units : units_of (ring_of (loop_on r)) pieces ≡ units_of (loop_of r) pieces = ap (λ l. units_of l pieces) (ring_on r) in
    let faults : M → ℕ = λ m. (view m).faults in
    record {
      reading = record { pieces = pieces; legal = ap (λ l. list_all (is_piece l) pieces) (ring_on r) ∙ came.talked.legal; entries = log_came view whole r s empty came };
      ends = ap (λ b. ends_as b pieces) ends ∙ came.talked.ends;
      course = says.course;
      begins = says.begins;
      outside = ap (λ l. ends_within l pieces) (ring_on r) ∙ came.outside;
      cause = subst (λ us. HasReplyCause reply (met_between r s) (faults r.drive.medium) (faults s.drive.medium) us) (sym units) says.cause;
      effect = subst (λ us. OnTapes (view r.drive.medium).tape (view s.drive.medium).tape (UnitsEffect us)) (sym units)
          (on_tapes (view r.drive.medium).tape (view s.drive.medium).tape (UnitsEffect (units_of (loop_of r) pieces)) came.effect);
      carried = subst (λ us. IsCarried item reply (view r.drive.medium).record_count (volume_at (state_on view was sound r)) us) (sym units) says.carried;
    }

-- a command that sent no frame
pub exchanged_none : {M : Type 0} (view : M → MediumView) (item : Item) (reply : Reply) (was is sound sound_now : Bool) (r s : RingView M) → r.books.log ≡ []
    → s ≡ r → is_frame_fault reply ≡ false → SaysOf view item reply was sound r s [] → Exchanged (r.books.plan) (event_by view item reply was is sound sound_now r s)
exchanged_none {M} view item reply was is sound sound_now r s empty same ends says = record {
  reading = record { pieces = []; legal = refl; entries = ap (λ (s : RingView M). s.books.log) same ∙ empty };
  ends = ap (λ b. ends_as (not b) []) ends;
  course = says.course;
  begins = says.begins;
  outside = refl;
  cause = says.cause;
  effect = on_tapes (view r.drive.medium).tape (view s.drive.medium).tape (UnitsEffect []) (λ t told. (t, ap (λ (s : RingView M). (view s.drive.medium).tape) same ∙ told, refl));
  carried = says.carried;
}
