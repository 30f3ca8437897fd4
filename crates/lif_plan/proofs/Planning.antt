-- What the commands of the directory are refused by, and what they are to write.
use Rattle.std.proofs.Common.{◌≡◌, ◌≢◌, ◌<◌, ◌*◌, ◌&&◌, ◌++◌, ℕ, List, [], ◌∷◌, Bool, true, false, if◌then◌else◌, not, nat_lt, length, get_or, set, filter, refl, sym, ap, subst, ◌∙◌, arith}
use Rattle.std.specs.Prelude.{Option, Some, None, is_some}
use Rattle.std.specs.List.{position, position_or_len, list_any}
use Rattle.std.proofs.lemmas.Grind.{common_steps}
use Rattle.std.proofs.lemmas.Bool.{or_parts, false_from_ne_true, ne_eqb, eq-eqb}
use Rattle.std.proofs.lemmas.Option.{cond_some}
use Rattle.std.proofs.lemmas.List.Quantifiers.{position-Some}
use Rattle.lif_model.specs.Tape.{Tape, record_at}
use Rattle.lif_model.specs.Gate.{gate_of}
use Rattle.lif_model.specs.Header.{HeaderParts, directory_start}
use Rattle.lif_model.specs.Directory.{type_of, length_of, is_end}
use Rattle.lif_model.specs.Made.{with_type}
use Rattle.lif_model.specs.declared.version.Version.{Version}
use Rattle.lif_model.specs.declared.version.Version.TheVariants.{One, Two}
use Rattle.lif_model.specs.Redo.{redo_start}
use Rattle.lif_model.specs.Pairs.{all_pairs}
use Rattle.lif_model.specs.Legal.{is_live, is_live_named, occupies, has_file, slot_named, have_other_names, end_of}
use Rattle.lif_model.specs.Volume.{Volume, IsVolume, redo_name, is_redo_entry, is_redo_file, is_adopted_with, is_adopted}
use Rattle.lif_model.specs.Apply.{VolumeCommand, IsWellFormed, Dir, Label, Fetch, Store, Rename, Purge, Adopt, Upgrade, Batch, Format, refusal_of, with_slot, volume_after}
use Rattle.lif_model.specs.declared.refusal.Refusal.{Refusal}
use Rattle.lif_model.specs.Writing.{entry_from, ended_behind, changed_slot, changes_of, slot_writes, chosen_place}
use Rattle.lif_model.proofs.Lists.{any_at, any_from}
use Rattle.lif_model.proofs.Adopted.{one_of_name, with_slot_at, redo_file_is_named, redo_entry_tells, adopted_some}
use Rattle.lif_dir.specs.declared.entries.FileEntry.{FileEntry}
use Rattle.lif_dir.specs.Entries.{entry_bytes}
use Rattle.lif_dir.proofs.Bytes.{HasWidths, kind_back}
use Rattle.lif_dir.specs.declared.change.Change.{Change}
use Rattle.lif_dir.specs.Changes.{FitsIn, put_slot, end_write, change_writes, bytes_with}
use Rattle.lif_model.specs.Changing.{redo_version, version_for}
use Rattle.lif_plan.specs.Refusals.{keeps_behind}
use Rattle.lif_plan.specs.Directories.{IsLegalDirectory}
use Rattle.lif_plan.specs.Plans.{IsVersionOf, IsVersionOfEntry, CommitsWith, IsVolumeWith, RefusesAs, ChangesNothing, PlacesFileOf, MakesChange, reaches_past}
use Rattle.lif_plan.proofs.Found.{found, at, nowhere, adopted_by_name}

-- ---- the version of the redo file

pub version_here : (n : ℕ) (slots : List (List ℕ)) (slot : List ℕ) (r : Option Version) → all_pairs have_other_names (filter is_live slots) ≡ true
    → slot_named slots redo_name ≡ Some slot → IsVersionOfEntry n slot r → IsVersionOf n slots r
version_here n slots slot None distinct named off = sym (adopted_by_name slots distinct n slot named) ∙ off
version_here n slots slot (Some version) distinct named on = elim (found slots redo_name) [
  | nowhere none place lacks ↦ let no : None ≡ Some slot = sym lacks ∙ named in cc
  | at k within live place here ↦
      let same : Some (get_or slots k []) ≡ Some slot = sym here ∙ named in
      let is : get_or slots k [] ≡ slot = cc in
      any_from [] (is_redo_entry n version) slots k within (ap (is_redo_entry n version) is ∙ on)
]

-- a volume has one redo file
pub one_version : (n : ℕ) (v : Volume) → IsVolume n v → is_adopted_with n One v.slots ≡ true → is_adopted_with n Two v.slots ≡ false
one_version n v is one = false_from_ne_true _ (λ two.
    let a = any_at [] (is_redo_entry n One) v.slots one in
    let b = any_at [] (is_redo_entry n Two) v.slots two in
    let first = redo_entry_tells n One (get_or v.slots a.0 []) a.2 in
    let second = redo_entry_tells n Two (get_or v.slots b.0 []) b.2 in
    let same : a.0 ≡ b.0 = one_of_name n v.header v.slots redo_name a.0 b.0 is.legal a.1 b.1 (redo_file_is_named n _ first.0) (redo_file_is_named n _ second.0) in
    absurd (omega (arith, first.3, second.3, ap (λ (k : ℕ). length_of (get_or v.slots k [])) same)))

lacks_two : (n : ℕ) (slots : List (List ℕ)) → is_adopted n slots ≡ false → is_adopted_with n Two slots ≡ false
lacks_two n slots off = false_from_ne_true _ (λ two. let no : true ≡ false = sym (adopted_some n Two slots two) ∙ off in cc)

pub version_is_redo : (n : ℕ) (version : Version) (v : Volume) → IsVolume n v → is_adopted_with n version v.slots ≡ true → redo_version n v.slots ≡ version
version_is_redo n One v is adopted = ap (λ (b : Bool). if b then Two else One) (one_version n v is adopted)
version_is_redo n Two v is adopted = ap (λ (b : Bool). if b then Two else One) adopted

-- the version by which a change commits is the one of the command
pub version_agrees : (n : ℕ) (version : Version) (command : VolumeCommand) (v : Volume) → IsVolume n v → CommitsWith n version command v → version_for n command (Some v) ≡ version
version_agrees n version Dir v is never = absurd never
version_agrees n version Label v is never = absurd never
version_agrees n version (Fetch name) v is never = absurd never
version_agrees n version (Store name kind implementation bytes) v is adopted = version_is_redo n version v is adopted
version_agrees n version (Rename old later) v is adopted = version_is_redo n version v is adopted
version_agrees n version (Purge name) v is adopted = version_is_redo n version v is adopted
version_agrees n version Adopt v is both = ap (λ (b : Bool). if b then Two else One) (lacks_two n v.slots both.1) ∙ sym both.0
version_agrees n version Upgrade v is both = version_is_redo n One v is both.1 ∙ sym both.0
version_agrees n version (Batch parts) v is adopted = version_is_redo n version v is adopted
version_agrees n version (Format label slots) v is never = absurd never

pub version_tells : (n : ℕ) (slots : List (List ℕ)) (r : Option Version) → IsVersionOf n slots r → is_adopted n slots ≡ is_some r
version_tells n slots None is = is
version_tells n slots (Some version) is = adopted_some n version slots is

-- the slot of the redo file has its name
pub redo_is_there : (n : ℕ) (version : Version) (slots : List (List ℕ)) → is_adopted_with n version slots ≡ true → has_file slots redo_name ≡ true
redo_is_there n version slots adopted =
    let it = any_at [] (is_redo_entry n version) slots adopted in
    any_from [] (is_live_named redo_name) slots it.0 it.1 (redo_file_is_named n (get_or slots it.0 []) (redo_entry_tells n version (get_or slots it.0 []) it.2).0)

-- ---- files that reach too far

module _ {X : Type 0} (picks test : X → Bool) where
  -- what none passes need not be left out
  none_left_out : (other : X → Bool) (xs : List X) → list_any other xs ≡ false → list_any (λ x. not (other x) && test x) (filter picks xs) ≡ list_any test (filter picks xs)
  none_left_out other [] off = refl
  none_left_out other (x ∷ xs) off =
      let both = or_parts (other x) (list_any other xs) off in
      let rest = none_left_out other xs both.1 in
      grind (arith, common_steps, both.0, rest)

  any_filter : (xs : List X) → list_any (λ x. picks x && test x) xs ≡ list_any test (filter picks xs)
  any_filter [] = refl
  any_filter (x ∷ xs) = let rest = any_filter xs in grind (arith, common_steps, rest)

-- the two tests for files that reach too far
pub past_gate : (n : ℕ) (slots : List (List ℕ)) (limit : ℕ) → limit ≡ gate_of n → is_adopted n slots ≡ false
    → list_any (reaches_past n limit) slots ≡ list_any (λ slot. nat_lt (gate_of n) (end_of slot)) (filter occupies slots)
past_gate n slots limit same off =
    ap (λ (k : ℕ). list_any (reaches_past n k) slots) same
    ∙ any_filter occupies (λ slot. not (is_redo_file n slot) && nat_lt (gate_of n) (end_of slot)) slots
    ∙ none_left_out occupies (λ slot. nat_lt (gate_of n) (end_of slot)) (is_redo_file n) slots off

pub past_redo : (n : ℕ) (slots : List (List ℕ)) (limit : ℕ) → limit ≡ redo_start Two n
    → list_any (reaches_past n limit) slots ≡ list_any (λ slot. not (is_redo_file n slot) && nat_lt (redo_start Two n) (end_of slot)) (filter occupies slots)
past_redo n slots limit same =
    ap (λ (k : ℕ). list_any (reaches_past n k) slots) same
    ∙ any_filter occupies (λ slot. not (is_redo_file n slot) && nat_lt (redo_start Two n) (end_of slot)) slots

-- ---- plans, by the volumes with these very slots

abbrev pub Holds : ℕ → HeaderParts → List (List ℕ) → (Volume → Type 0) → Type 0
Holds n header slots P = (v : Volume) → IsVolumeWith n header slots (record v { slots = slots }) → P (record v { slots = slots })

pub of_slots : {n : ℕ} {header : HeaderParts} {slots : List (List ℕ)} (P : Volume → Type 0) → Holds n header slots P → (v : Volume) → IsVolumeWith n header slots v → P v
of_slots {n} {header} {slots} P all v is = subst (λ (xs : List (List ℕ)). IsVolumeWith n header slots (record v { slots = xs }) → P (record v { slots = xs })) (sym is.same) (all v) is

module _ {n : ℕ} {command : VolumeCommand} {header : HeaderParts} {slots : List (List ℕ)} where
  pub refuses : {why : Refusal} → keeps_behind why ≡ true → Holds n header slots (λ v. refusal_of n command (Some v) ≡ Some why) → RefusesAs n command header slots why
  refuses {why} known refused = record { refused = of_slots (λ v. refusal_of n command (Some v) ≡ Some why) refused; known = known }

  pub leaves : IsWellFormed command → Holds n header slots (λ v. refusal_of n command (Some v) ≡ None) → Holds n header slots (λ v. (u : Tape) → changes_of n command v u ≡ []) → Holds n header slots (λ v. volume_after n command v ≡ v)
      → ChangesNothing n command header slots
  leaves formed free nothing same = record {
    formed = formed;
    free = of_slots (λ v. refusal_of n command (Some v) ≡ None) free;
    nothing = of_slots (λ v. (u : Tape) → changes_of n command v u ≡ []) nothing;
    same = of_slots (λ v. volume_after n command v ≡ v) same;
  }

  pub makes : (c : Change) → IsWellFormed command → FitsIn (8 * header.length) (length slots) c → PlacesFileOf n command header slots c
      → Holds n header slots (λ v. refusal_of n command (Some v) ≡ None) → Holds n header slots (CommitsWith n c.version command)
      → Holds n header slots (λ v. (u : Tape) → directory_start (record_at u 0) ≡ header.start → slot_writes n command v (chosen_place n command v) u ≡ change_writes header.start c u)
      → Holds n header slots (λ v. (volume_after n command v).slots ≡ bytes_with c slots) → MakesChange n command header slots c
  makes c formed fits file free commits writes after = record {
    formed = formed;
    fits = fits;
    file = file;
    free = of_slots (λ v. refusal_of n command (Some v) ≡ None) free;
    commits = of_slots (CommitsWith n c.version command) commits;
    writes = of_slots (λ v. (u : Tape) → directory_start (record_at u 0) ≡ header.start → slot_writes n command v (chosen_place n command v) u ≡ change_writes header.start c u) writes;
    after = of_slots (λ v. (volume_after n command v).slots ≡ bytes_with c slots) after;
  }

-- ---- slots that change

pub not_end_kind : (e : FileEntry) → HasWidths e → is_end (entry_bytes e) ≡ false → e.kind ≢ 0xFFFF
not_end_kind e w off ends = let both : true ≡ false = sym (eq-eqb (type_of (entry_bytes e)) 0xFFFF (kind_back e w ∙ ends)) ∙ off in cc

module _ {X : Type 0} (xs : List X) (k : ℕ) (x : X) where
  pub put_within : k < length xs → put_slot xs k x ≡ set xs k x
  put_within lt = ap (λ (b : Bool). if b then xs ++ x ∷ [] else set xs k x) (ne_eqb k (length xs) (λ e. absurd (omega (arith, e, lt))))

  pub put_last : k ≡ length xs → put_slot xs k x ≡ xs ++ x ∷ []
  put_last last = ap (λ (b : Bool). if b then xs ++ x ∷ [] else set xs k x) (eq-eqb k (length xs) last)

-- an end after the slots that change, where there is room
pub end_is : (capacity room start k : ℕ) (u : Tape) (ended : Bool) → capacity ≡ room → directory_start (record_at u 0) ≡ start → ended ≡ nat_lt k room
    → ended_behind capacity u k ≡ end_write ended start k u
end_is capacity room start k u ended wide begins on = λ i. if (ap (nat_lt k) wide ∙ sym on) i then (k, with_type 0xFFFF (entry_from u (begins i) k)) ∷ [] else []

-- a command that changes the slot of a name
module _ {n : ℕ} {command : VolumeCommand} {header : HeaderParts} {slots : List (List ℕ)} where
  pub slot_plan : (name : List ℕ) (p : ℕ) (change : List ℕ → List ℕ) (version : Version) (entry : FileEntry)
      → IsWellFormed command → PlacesFileOf n command header slots (record { version = version; slot = p; entry = entry; next = None; ended = false })
      → IsLegalDirectory n header slots → position (is_live_named name) slots ≡ Some p → entry_bytes entry ≡ change (get_or slots p []) → HasWidths entry
      → ((s : List ℕ) → length s ≡ 32 → is_end s ≡ false → is_end (change s) ≡ false)
      → Holds n header slots (λ v. refusal_of n command (Some v) ≡ None) → Holds n header slots (CommitsWith n version command)
      → Holds n header slots (λ v. (u : Tape) → slot_writes n command v (chosen_place n command v) u ≡ changed_slot name change slots)
      → Holds n header slots (λ v. (volume_after n command v).slots ≡ with_slot name change slots)
      → MakesChange n command header slots (record { version = version; slot = p; entry = entry; next = None; ended = false })
  slot_plan name p change version entry formed file legal found_at bytes widths keeps free commits writes after =
      let here = position-Some (is_live_named name) slots p [] found_at in
      let place : position_or_len (is_live_named name) slots ≡ p = (cond_some (nat_lt (position_or_len (is_live_named name) slots) (length slots)) (position_or_len (is_live_named name) slots) p found_at).1 in
      makes (record { version = version; slot = p; entry = entry; next = None; ended = false }) formed
      (record {
        place = omega (arith, here.0);
        one = omega (arith, here.0);
        within = omega (arith, here.0, legal.shape.few);
        kind = not_end_kind entry widths (ap is_end bytes ∙ keeps (get_or slots p []) (legal.shape.entries p here.0) (legal.shape.kinds p here.0));
        next = tt;
        end_within = λ on. let no : false ≡ true = on in cc;
        end_past = λ on. let no : false ≡ true = on in cc;
        end_there = λ more room. absurd (omega (arith, more, here.0));
      }) file free commits
      (λ v is u told. writes v is u ∙ ap (λ (k : ℕ). (k, change (get_or slots k [])) ∷ []) place ∙ ap (λ (b : List ℕ). (p, b) ∷ []) (sym bytes))
      (λ v is. after v is ∙ with_slot_at n v.header slots name change p is.volume.legal here.0 here.1 ∙ ap (set slots p) (sym bytes) ∙ sym (put_within slots p (entry_bytes entry) here.0))
