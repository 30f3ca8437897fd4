-- What the commands of il answer, and the line of a volume that can be listed.
use Rattle.std.proofs.Common.{◌≡◌, ◌++◌, ◌∙◌, ℕ, List, Bool, true, false, if◌then◌else◌, codes, ap, sym}
use Rattle.std.specs.Prelude.{Option, Some, None, Result, Ok, Err}
use Rattle.std.specs.Result.{result_err}
use Rattle.lif_model.specs.Header.{HeaderParts}
use Rattle.lif_model.specs.Volume.{Volume, is_adopted}
use Rattle.lif_model.specs.Apply.{VolumeCommand, Adopt, Upgrade, is_upgraded, refusal_of}
use Rattle.lif_model.specs.declared.refusal.Refusal.{Refusal}
use Rattle.lif_dir.specs.declared.change.Change.{Change}
use Rattle.lif_plan.specs.Plans.{IsVolumeWith, IsPlan}
use Rattle.tape_why.specs.Why.{adopt_text, upgrade_text, listed_text}

-- a plan answers as the command does
pub plan_answers : (n : ℕ) (command : VolumeCommand) (header : HeaderParts) (slots : List (List ℕ)) (plan : Result (Option Change) Refusal) (v : Volume)
    → IsPlan n command header slots plan → IsVolumeWith n header slots v → result_err plan ≡ refusal_of n command (Some v)
plan_answers n command header slots (Err why) v is same = sym (is.refused v same)
plan_answers n command header slots (Ok None) v is same = sym (is.free v same)
plan_answers n command header slots (Ok (Some change)) v is same = sym (is.free v same)

-- the beginnings of the lines
abbrev pub small_head : List ℕ
small_head = codes "it can be listed and changed, but not packed, and not by a batch: its redo file has 4 records; "

abbrev pub none_head : List ℕ
none_head = codes "it can be listed, but not changed: it has no redo file; "

module _ (n : ℕ) (v : Volume) (answer : Option Refusal) where
  pub small_line : is_upgraded n v ≡ false → is_adopted n v.slots ≡ true → answer ≡ refusal_of n Upgrade (Some v)
      → small_head ++ (upgrade_text answer ++ codes "\n") ≡ listed_text n v
  small_line off on is = sym (
      ap (λ (b : Bool). if b then codes "it can be listed and changed\n"
      else if is_adopted n v.slots then small_head ++ (upgrade_text (refusal_of n Upgrade (Some v)) ++ codes "\n")
      else none_head ++ (adopt_text (refusal_of n Adopt (Some v)) ++ codes "\n")) off
      ∙ ap (λ (b : Bool). if b then small_head ++ (upgrade_text (refusal_of n Upgrade (Some v)) ++ codes "\n")
      else none_head ++ (adopt_text (refusal_of n Adopt (Some v)) ++ codes "\n")) on
      ∙ ap (λ (o : Option Refusal). small_head ++ (upgrade_text o ++ codes "\n")) (sym is)
      )

  pub none_line : is_upgraded n v ≡ false → is_adopted n v.slots ≡ false → answer ≡ refusal_of n Adopt (Some v)
      → none_head ++ (adopt_text answer ++ codes "\n") ≡ listed_text n v
  none_line off on is = sym (
      ap (λ (b : Bool). if b then codes "it can be listed and changed\n"
      else if is_adopted n v.slots then small_head ++ (upgrade_text (refusal_of n Upgrade (Some v)) ++ codes "\n")
      else none_head ++ (adopt_text (refusal_of n Adopt (Some v)) ++ codes "\n")) off
      ∙ ap (λ (b : Bool). if b then small_head ++ (upgrade_text (refusal_of n Upgrade (Some v)) ++ codes "\n")
      else none_head ++ (adopt_text (refusal_of n Adopt (Some v)) ++ codes "\n")) on
      ∙ ap (λ (o : Option Refusal). none_head ++ (adopt_text o ++ codes "\n")) (sym is)
      )
