-- What a lend leaves of a store over the loop.
use Rattle.std.proofs.Common.{◌≡◌, ◌∙◌, ◌≤◌, ◌+◌, ◌*◌, ◌/◌, ℕ, Bool, true, false, length, refl, ap, arith, length-append}
use Rattle.std.specs.Prelude.{Result, Ok, Err, IfOk, IfErr}
use Rattle.il_ports.specs.declared.records.Trouble.{Trouble}
use Rattle.il_ports.specs.Media.{MediumView}
use Rattle.loop_model.specs.Reach.{met}
use Rattle.loop_model.proofs.ReachLaws.{length-met}
use Rattle.il_ring.specs.Lists.{Each}
use Rattle.il_ring.specs.Lends.{lend_entries}
use Rattle.il_ring.specs.Plans.{hops_of}
use Rattle.il_ring.specs.Rings.{RingView, IsRing, devices_of, spare_of}
use Rattle.il_ring.proofs.Faults.{risen_by_later}
use Rattle.il_control.specs.Lent.{LendBroken, LendMade, Lends, asked_on}
use Rattle.il_record.specs.declared.records.Since.TheVariants as since
use Rattle.il_record.specs.Called.{EndedBy, LeavesLent}
use Rattle.il_record.specs.LoopStores.{LoopView, StandsBy, StandsSo, calls_in, crossed_hops, view_of}
use Rattle.il_record.specs.Polls.{MayPoll}
use Rattle.il_record.proofs.Calling.{left_whole, stands}
use Rattle.il_record.proofs.Places.{may_poll_kept}
use Rattle.il_record.proofs.StoreCalls.{calls_less}
use Rattle.il_record.proofs.StoreRuns.{as_left}
use Rattle.il_record.proofs.StoreStarts.{count_of, still_of}

-- ---- the ring

module _ {M : Type 0} (a limit : ℕ) (whole : Bool) (r s : RingView M) (lends : Lends a limit whole r s) where
  -- its log has an entry for each of the lend
  used : spare_of r ≤ spare_of s + (2 * limit + 9)
  used =
      let log = ap (λ log. length log) lends.log in
      let parts = length-append r.books.log (lend_entries (length (devices_of r)) (asked_on r) lends.lend) in
      let room = lends.kept.room in
      let short = lends.short in
      omega (arith, log, parts, room, short)

  -- no hop that was crossed is forgotten
  crossed : IsRing r → crossed_hops r ≤ crossed_hops s
  crossed ring =
      let up : r.books.crossings ≤ s.books.crossings = omega (arith, lends.crossings, risen_by_later lends.links r.books.crossings ring.crossings) in
      let more = ap (λ plan. length (met (hops_of plan) 0 s.books.crossings)) lends.kept.plan ∙ length-met (hops_of r.books.plan) 0 r.books.crossings s.books.crossings (omega arith) up in
      omega (arith, more)

-- ---- the store

module _ {M S : Type 0} (view : M → MediumView) (seen : S → RingView M) (p q : S) (a limit : ℕ) (old : LoopView M) (valid : StandsSo old) (ready : old.ready ≡ true) (s : RingView M) where
  before : StandsBy true old.ring old.sound old.since
  before = stands old.ready old.ring old.sound old.since ready valid

  -- after a lend, whole or broken off
  lent : (whole : Bool) → Lends a limit whole old.ring s → s.drive.medium ≡ old.ring.drive.medium → (now : Bool) → StandsBy now s false since.Mended
      → LeavesLent ((2 * limit + 309) / 300) (view_of view seen p old) (view_of view seen q (record old { ring = s; ready = now; sound = false; since = since.Mended }))
  lent whole lends medium now stands_now =
      let still = still_of view old.ring s medium in
      record {
        valid = stands_now;
        quiet = record { tape = still.tape; moment = still.moment; since = still.since };
        size = still.stays_in.size;
        sound = refl;
        left = calls_less ((2 * limit + 309) / 300) (2 * limit + 9) old.ring s (used a limit whole old.ring s lends) (omega arith);
        room = ap calls_in lends.kept.room;
        medium_faults = count_of view old.ring s medium;
        frame_faults = crossed a limit whole old.ring s lends before.0.free.ring;
        resumed = λ k so. so;
      }

  may : (whole : Bool) → Lends a limit whole old.ring s → Each MayPoll 1 (devices_of s)
  may whole lends = may_poll_kept old.ring s (record { kept = lends.kept.places }) before.3

  pub lend_leaves : {E : Type 0} (answer : Result Bool E) (new : LoopView M) (result : Result Bool Trouble) → EndedBy answer (record old { ring = s; sound = false; since = since.Mended }) new result
      → IfOk answer (λ took. LendMade a limit took old.ring s) → IfErr answer (λ e. LendBroken a limit old.ring s) → LeavesLent ((2 * limit + 309) / 300) (view_of view seen p old) (view_of view seen q new)
  lend_leaves (Ok took) new result ended made broken =
      as_left (λ l result. LeavesLent ((2 * limit + 309) / 300) (view_of view seen p old) (view_of view seen q l)) new _ result _ (ended.0, left_whole false since.Mended old new s ready ended.1) (lent true made.lends made.drive.medium true (made.idle, λ sound. cc, refl, may true made.lends))
  lend_leaves (Err e) new result ended made broken =
      as_left (λ l result. LeavesLent ((2 * limit + 309) / 300) (view_of view seen p old) (view_of view seen q l)) new _ result _ ended (lent false broken.lends broken.drive.medium false (broken.lost, refl, may false broken.lends))
