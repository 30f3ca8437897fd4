-- What is planned for the parts of a batch.
use Rattle.std.proofs.Common.{◌≡◌, ℕ, List, [], ◌∷◌, true, refl, ap}
use Rattle.std.specs.Prelude.{Option, Some, None, Result, Ok, Err}
use Rattle.lif_model.specs.Tape.{Tape}
use Rattle.lif_model.specs.Header.{HeaderParts, directory_start}
use Rattle.lif_model.specs.Made.{with_type}
use Rattle.lif_model.specs.Volume.{Volume}
use Rattle.lif_model.specs.Parts.{Part}
use Rattle.lif_model.specs.Parts as part
use Rattle.lif_model.specs.Apply.{Rename, Purge}
use Rattle.lif_model.specs.declared.refusal.Refusal.{Refusal}
use Rattle.lif_model.specs.Writing.{SlotWrites, changes_by, changed_slot, part_writes}
use Rattle.lif_model.specs.Legal.{place_named}
use Rattle.lif_model.specs.Fit.{Place}
use Rattle.lif_dir.specs.declared.change.Change.{Change}
use Rattle.lif_plan.specs.Refusals.{keeps_behind}
use Rattle.lif_plan.specs.Plans.{IsVolumeWith, IsPlan}
use Rattle.lif_plan.specs.Parts.{part_refusal, RefusesPart, IsPartPlan}
use Rattle.lif_plan.proofs.Planning.{Holds, of_slots}

pub refuses_part : {n : ℕ} {p : Part} {barred : List ℕ} {header : HeaderParts} {slots : List (List ℕ)} {why : Refusal} → keeps_behind why ≡ true
    → Holds n header slots (λ v. part_refusal n barred p v ≡ Some why) → RefusesPart n p barred header slots why
refuses_part {n} {p} {barred} {header} {slots} {why} known refused = record { refused = of_slots (λ v. part_refusal n barred p v ≡ Some why) refused; known = known }

-- ---- the parts that are commands by themselves

-- a plan for a part that has no file is that of the command
module _ (n : ℕ) (barred : List ℕ) (header : HeaderParts) (slots : List (List ℕ)) where
  -- no change touches no slot
  no_writes : (start : ℕ) (ws : SlotWrites) (u : Tape) → changes_by start ws u ≡ [] → ws ≡ []
  no_writes start [] u none = refl
  no_writes start (w ∷ ws) u none = cc

  pub rename_part : (old later : List ℕ) (r : Result (Option Change) Refusal) → IsPlan n (Rename old later) header slots r → IsPartPlan n (part.Rename old later) barred header slots r
  rename_part old later (Err why) plan = record { refused = plan.refused; known = plan.known }
  rename_part old later (Ok None) plan = record {
    formed = plan.formed;
    free = plan.free;
    same = plan.same;
    purges = λ v is. refl;
    writes = λ v is u. no_writes (directory_start v.header) (part_writes (part.Rename old later) v Place.NoSlot u) u (plan.nothing v is u);
    files = λ v is. refl;
  }
  rename_part old later (Ok (Some change)) plan = record {
    formed = plan.formed;
    fits = plan.fits;
    free = plan.free;
    commits = plan.commits;
    file = tt;
    purges = λ v is. refl;
    writes = plan.writes;
    after = plan.after;
  }

  first_slot : SlotWrites → ℕ
  first_slot [] = 0
  first_slot (w ∷ ws) = w.0

  pub purge_part : (name : List ℕ) (r : Result (Option Change) Refusal) → IsPlan n (Purge name) header slots r → IsPartPlan n (part.Purge name) barred header slots r
  unfolding first_slot
  purge_part name (Err why) plan = record { refused = plan.refused; known = plan.known }
  purge_part name (Ok None) plan = record {
    formed = plan.formed;
    free = plan.free;
    same = plan.same;
    purges = λ v is. absurd (never v is);
    writes = λ v is u. absurd (never v is);
    files = λ v is. refl;
  }
    where
      never : (v : Volume) → IsVolumeWith n header slots v → ⊥
      never v is = let none : changed_slot name (with_type 0) v.slots ≡ [] = no_writes (directory_start v.header) (changed_slot name (with_type 0) v.slots) [] (plan.nothing v is []) in cc
  purge_part name (Ok (Some change)) plan = record {
    formed = plan.formed;
    fits = plan.fits;
    free = plan.free;
    commits = plan.commits;
    file = tt;
    purges = λ v is.
        let slot : place_named name v.slots ≡ change.slot = ap first_slot (plan.writes v is (v.header ∷ []) (ap (λ (h : HeaderParts). h.start) is.told)) in
        ap (λ (k : ℕ). k ∷ []) slot;
    writes = plan.writes;
    after = plan.after;
  }
