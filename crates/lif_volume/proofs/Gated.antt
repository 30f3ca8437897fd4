-- Of a tape whose gate record a file holds that is not ours: no command does more to it than settle it.
use Rattle.std.proofs.Common.{◌≡◌, ◌⊎◌, ◌&&◌, inl, inr, ⊎_elim, ℕ, List, [], ◌∷◌, Bool, true, false, length, refl, sym, ap, subst, ◌∙◌}
use Rattle.std.specs.Prelude.{Option, Some, not}
use Rattle.std.proofs.lemmas.Bool.{and_parts, cases_Bool}
use Rattle.lif_model.specs.Tape.{Tape}
use Rattle.lif_model.specs.Redo.{redo_of, is_none, settled}
use Rattle.lif_model.specs.Volume.{Volume, is_gate_held, is_foreign_gated}
use Rattle.lif_model.specs.Apply.{VolumeCommand, Dir, Label, Fetch, Store, Rename, Purge, Adopt, Upgrade, Batch, Format, first_met, lacks_redo, runs_past_gate, checks_of, refusal_of}
use Rattle.lif_model.specs.declared.refusal.Refusal.{Refusal}
use Rattle.lif_model.specs.declared.refusal.Refusal.TheVariants.{NoRedo, Exists, NoSlot, NoRoom, InUse}
use Rattle.lif_model.proofs.Adopted.{clear_gate}
use Rattle.il_ports.specs.Stores.{RecordsView}
use Rattle.lif_volume.specs.Views.{VolumeView}
use Rattle.lif_volume.specs.Commands.{SettlesOnly, OnlySettles}
use Rattle.lif_volume.specs.Changing.{SettlesForeign}
use Rattle.lif_model.specs.Changing.{files_when, changes_filed}
use Rattle.lif_volume.proofs.Mounting.{volume_on}

-- ---- each command is refused, or changes nothing

abbrev pub Rests : ℕ → VolumeCommand → Option Volume → Tape → Type 0
Rests n command volume t = ((why : Refusal) × (refusal_of n command volume ≡ Some why)) ⊎ ((files_when n command volume ≡ []) × (changes_filed n command volume t ≡ []))

first_hit : (test : Bool) (why : Refusal) (checks : List (Bool × Refusal)) → test ≡ true → first_met ((test, why) ∷ checks) ≡ Some why
first_hit true why checks on = refl
first_hit false why checks on = cc

lacks_hit : (checks rest : List (Bool × Refusal)) (lacks : Bool) → checks ≡ (lacks, NoRedo) ∷ rest → lacks ≡ true → first_met checks ≡ Some NoRedo
lacks_hit checks rest lacks is on = ap first_met is ∙ first_hit lacks NoRedo rest on

adopt_hit : (lacks named full past : Bool) → lacks ≡ true → past ≡ true
    → (why : Refusal) × (first_met ((lacks && named, Exists) ∷ (lacks && full, NoSlot) ∷ (lacks && past, InUse) ∷ []) ≡ Some why)
adopt_hit false named full past on held = cc
adopt_hit true true full past on held = (Exists, refl)
adopt_hit true false true past on held = (NoSlot, refl)
adopt_hit true false false false on held = cc
adopt_hit true false false true on held = (InUse, refl)

format_hit : (long lacks past : Bool) → lacks ≡ true → past ≡ true → (why : Refusal) × (first_met ((long, NoRoom) ∷ (lacks && past, InUse) ∷ []) ≡ Some why)
format_hit true lacks past on held = (NoRoom, refl)
format_hit false false past on held = cc
format_hit false true false on held = cc
format_hit false true true on held = (InUse, refl)

module _ (t : Tape) (held : is_gate_held t ≡ true) where
  lacks : lacks_redo (length t) (volume_on t) ≡ true
  lacks = (and_parts _ _ (and_parts _ _ held).1).0

  past : runs_past_gate (length t) (volume_on t) ≡ true
  past = ⊎_elim (λ on. on) (λ off. let no : true ≡ false = sym held ∙ clear_gate t off in cc) (cases_Bool (runs_past_gate (length t) (volume_on t)))

  rests_here : (command : VolumeCommand) → Rests (length t) command (Some (volume_on t)) t
  rests_here Dir = inr (refl, refl)
  rests_here Label = inr (refl, refl)
  rests_here (Fetch name) = inr (refl, refl)
  rests_here (Store name kind implementation bytes) = inl (NoRedo, lacks_hit (checks_of (length t) (Store name kind implementation bytes) (volume_on t)) _ _ refl lacks)
  rests_here (Rename old later) = inl (NoRedo, lacks_hit (checks_of (length t) (Rename old later) (volume_on t)) _ _ refl lacks)
  rests_here (Purge name) = inl (NoRedo, lacks_hit (checks_of (length t) (Purge name) (volume_on t)) _ _ refl lacks)
  rests_here Adopt = inl (adopt_hit _ _ _ _ lacks past)
  rests_here Upgrade = inl (NoRedo, lacks_hit (checks_of (length t) Upgrade (volume_on t)) _ _ refl lacks)
  rests_here (Batch parts) = inl (NoRedo, lacks_hit (checks_of (length t) (Batch parts) (volume_on t)) _ _ refl lacks)
  rests_here (Format label slots) = inl (format_hit _ _ _ lacks past)

pub rests_held : (n : ℕ) (t : Tape) (command : VolumeCommand) → length t ≡ n → is_gate_held t ≡ true → Rests n command (Some (volume_on t)) t
rests_held n t command size held = subst (λ (k : ℕ). Rests k command (Some (volume_on t)) t) size (rests_here t held command)

-- ---- what a whole command does then

-- of a foreign-gated tape the settled one's gate record is held
pub held_settled : (t : Tape) → is_foreign_gated t ≡ true → is_gate_held (settled t) ≡ true
held_settled t foreign = (and_parts (not (is_none (redo_of t))) _ foreign).1

-- its first part settles the tape, and the second leaves a store whose tape is held
pub settles_foreign : {R S : Type 0} (view : R → RecordsView S) (x y z : VolumeView R) → OnlySettles view x y
    → ((t : Tape) → (view x.records).tape ≡ Some t → is_gate_held (settled t) ≡ true → z.records ≡ y.records) → SettlesForeign view x z
settles_foreign {R = R} view x y z first rests t told held =
    subst (λ (r : R). SettlesOnly (view x.records) (view r) t) (sym (rests t told held)) (first t told)
