-- Where nothing is planned and no port fails, a run on an image that is there answers the whole script, and each reply is that of its
-- command; or there was no memory for it.
use Rattle.std.proofs.Common.{◌≡◌, ◌⊎◌, ◌≤◌, ◌<◌, inl, inr, ℕ, List, [], Option, Some, None, length, refl, ap, arith}
use Rattle.lif_model.specs.Causes.{Rose}
use Rattle.lif_model.specs.Shelf.{Shelf, image_of, inserted, largest_image}
use Rattle.lif_model.specs.Tape.{Tape}
use Rattle.il_script.specs.declared.limits.TheConstants.{LONGEST_SCRIPT}
use Rattle.host_model.specs.Endings.{RunEnd, AllOk, SomeNotOk, BadWords, NoImage, ImageTooLarge, SourceFailed, SinkFailed, OutOfMemory, ScriptTooLong, InsertFailed, HasEndingCause}
use Rattle.host_model.specs.Histories.{AllAnswered, last_count}
use Rattle.host_model.specs.Orders.{Order, Outside}
use Rattle.host_model.specs.Runs.{items_asked}
use Rattle.host_model.specs.Leaves.{AsksAs, LeavesBy, RunsOver}

-- The words plan no fault. The shelf is told, and has an image that is not too large, or none and one is to be made. The script is told,
-- and not too long. No count of faults rose, and none stands at its last value.
pub record IsPlainRun (order : Order) (old now : Outside) (source source_now sink sink_now : ℕ) : Type 0 where
  pub planned : order.plan ≡ []
  pub shelf : Shelf
  pub shelf_is : old.shelf ≡ Some shelf
  pub tape : Tape
  pub tape_is : inserted (image_of order.image shelf) order.made ≡ Some tape
  pub script : List ℕ
  pub script_is : old.left ≡ Some script
  pub short : length script ≤ LONGEST_SCRIPT
  pub source_same : source_now ≡ source
  pub source_low : source < last_count
  pub sink_same : sink_now ≡ sink
  pub sink_low : sink < last_count
  pub medium_same : now.faults ≡ old.faults
  pub medium_low : old.faults < last_count

-- all of the script was answered, each item by its own reply
pub record AnswersAll (end : RunEnd) (order : Order) (old now : Outside) (stopped : Tape → Type 0) : Type 0 where
  pub status : (end ≡ AllOk) ⊎ (end ≡ SomeNotOk)
  pub run : RunsOver end order old now stopped
  pub answered : AllAnswered run.ran.events

not_risen : (before now : ℕ) → now ≡ before → before < last_count → Rose before now → ⊥
not_risen before now same low rose = let risen = rose.risen in absurd (omega (arith, same, low, risen))

module _ (order : Order) (old now : Outside) (stopped : Tape → Type 0) (source source_now sink sink_now : ℕ) (plain : IsPlainRun order old now source source_now sink sink_now) where
  answers : (end : RunEnd) → (end ≡ AllOk) ⊎ (end ≡ SomeNotOk) → RunsOver end order old now stopped → AnswersAll end order old now stopped
  answers end status run = record {
    status = status;
    run = run;
    answered = run.tells.complete plain.planned
        (let first = ap (λ s. s.faults) run.opens.fresh in let same = plain.medium_same in let back = run.back.faults in omega (arith, first, same, back))
        (let first = ap (λ s. s.faults) run.opens.fresh in let low = plain.medium_low in omega (arith, first, low));
  }

  some_tape : (image : Option (List ℕ)) (made : Option ℕ) (t : Tape) → inserted image made ≡ Some t → image ≡ None → made ≡ None → ⊥
  some_tape None None t is none kept = cc
  some_tape None (Some n) t is none kept = cc
  some_tape (Some image) made t is none kept = cc

  fits : (image : List ℕ) (asked : Option (List ℕ)) (made : Option ℕ) (t : Tape) → inserted asked made ≡ Some t → asked ≡ Some image → largest_image < length image → ⊥
  fits image None made t is found long = cc
  fits image (Some other) made t is found long = too_long other (length_is found) is
    where
      length_is : Some other ≡ Some image → length other ≡ length image
      length_is same = ap (λ (o : Option (List ℕ)). length (get o)) same
        where
          get : Option (List ℕ) → List ℕ
          get None = []
          get (Some bytes) = bytes

      too_long : (bytes : List ℕ) → length bytes ≡ length image → inserted (Some bytes) made ≡ Some t → ⊥
      too_long bytes same is = grind (arith, is, same, long)

  pub complete : (end : RunEnd) → HasEndingCause end source source_now sink sink_now old.faults now.faults → LeavesBy end (Some order) old now stopped
      → (end ≡ OutOfMemory) ⊎ AnswersAll end order old now stopped
  complete AllOk cause leaves = inr (answers AllOk (inl refl) leaves)
  complete SomeNotOk cause leaves = inr (answers SomeNotOk (inr refl) leaves)
  complete OutOfMemory cause leaves = inl refl
  complete BadWords cause leaves = absurd leaves
  complete NoImage cause leaves = absurd (some_tape (image_of order.image plain.shelf) order.made plain.tape plain.tape_is (leaves.1.missing plain.shelf plain.shelf_is) leaves.1.kept)
  complete ImageTooLarge cause leaves =
      let found = leaves.1.found plain.shelf plain.shelf_is in
      absurd (fits found.0 (image_of order.image plain.shelf) order.made plain.tape plain.tape_is found.1 found.2)
  complete SourceFailed cause leaves = absurd (not_risen source source_now plain.source_same plain.source_low cause.source)
  complete SinkFailed cause leaves = absurd (not_risen sink sink_now plain.sink_same plain.sink_low cause.sink)
  complete InsertFailed cause leaves = absurd (not_risen old.faults now.faults plain.medium_same plain.medium_low cause.medium)
  complete ScriptTooLong cause leaves = too_short order.generated leaves.ran.asks
    where
      too_short : (generated : Option (ℕ × ℕ)) → AsksAs generated ScriptTooLong old.left now.left (items_asked leaves.ran.events) → (ScriptTooLong ≡ OutOfMemory) ⊎ AnswersAll ScriptTooLong order old now stopped
      too_short None asks = let long = (asks plain.script plain.script_is).0 in let short = plain.short in absurd (omega (arith, long, short))
      too_short (Some script) asks = absurd asks.0
