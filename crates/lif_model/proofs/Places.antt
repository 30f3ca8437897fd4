-- The records of a place for a new file: nobody uses them, and while they are written the volume
-- stays.
use Rattle.std.proofs.Common.{◌≡◌, ◌≢◌, ◌⊎◌, ◌<◌, ◌≤◌, ◌+◌, ◌&&◌, ◌==◌, ℕ, List, [], Bool, true, false, not, MatchBool, Some, length, get_or, take, inl, inr, refl, sym, ◌∙◌, ap, subst, arith, nat_lt, nat_le}
use Rattle.std.proofs.lemmas.Bool.{cases_lt, and_parts, or_cases, ltb-true, lt-ltb, eqb-true, false_from_ne_true, not_from_true}
use Rattle.std.proofs.lemmas.List.{length-take-le}
use Rattle.lif_model.specs.Tape.{Tape, record_at, IsTape}
use Rattle.lif_model.specs.Stops.{Torn}
use Rattle.lif_model.specs.Transfers.{Replaced, PartlyReplaced}
use Rattle.lif_model.specs.Gate.{gate_of}
use Rattle.lif_model.specs.Header.{directory_start, directory_end, capacity_of}
use Rattle.lif_model.specs.Directory.{start_of, length_of, slots_of, is_purged}
use Rattle.lif_model.specs.declared.version.Version.{Version}
use Rattle.lif_model.specs.Redo.{redo_start, targets_place, redo_of, is_none, settled, IsSettled}
use Rattle.lif_model.specs.Legal.{is_live, has_records, end_of, holds}
use Rattle.lif_model.specs.Volume.{is_redo_entry, is_adopted_with, is_file, Volume, volume_in, volume_of, IsAdopted, is_used, is_foreign_gated, is_gate_held, IsVolume, is_adopted}
use Rattle.lif_model.specs.Fit.{redo_place}
use Rattle.lif_model.proofs.Lists.{any_at}
use Rattle.lif_model.proofs.Slots.{readable_tells, occupies_tells}
use Rattle.lif_model.proofs.Redo.{redo_places, settled_has_none}
use Rattle.lif_model.proofs.Volume.{quiet_agree, volume_kept}
use Rattle.lif_model.proofs.Directory.{volume_tells, volume_in_is}
use Rattle.lif_model.proofs.Fit.{IsPlaceIn, place_is_free}
use Rattle.lif_model.proofs.Adopted.{adopted_version, is_file_tells, holds_tells, redo_entry_tells, redo_is_alone, redo_file_is_named, adopted_some}

-- ---- a place, and what uses records

-- a record of a live file is none of the place
pub file_is_off : (n : ℕ) (v : Volume) (count i start : ℕ) → IsPlaceIn n v count i start → (j k : ℕ) → j < length v.slots → is_live (get_or v.slots j []) ≡ true → holds k (get_or v.slots j []) ≡ true
    → (k < start) ⊎ (start + count ≤ k)
file_is_off n v count i start place j k lt live on =
    elim (place_is_free n (directory_end v.header) (capacity_of v.header) v.slots count i start j place lt own records) [
      | inl le ↦ inl (omega (arith, le, held.1))
      | inr le ↦ inr (omega (arith, le, held.0))
    ]
  where
    held : (start_of (get_or v.slots j []) ≤ k) × (k < end_of (get_or v.slots j []))
    held = holds_tells k (get_or v.slots j []) on

    records : has_records (get_or v.slots j []) ≡ true
    records = lt-ltb 0 (length_of (get_or v.slots j [])) (omega (arith, held.0, held.1))

    own : j ≡ i → i ≡ redo_place v.slots
    own e = elim place.candidate [
      | inl purged ↦ let no : true ≡ false = sym live ∙ not_from_true _ (ap (λ (m : ℕ). is_purged (get_or v.slots m [])) e ∙ purged.2) in cc
      | inr last ↦ last.0
    ]

-- A record that the volume of a tape uses is none of a place.
pub place_apart : (n : ℕ) (u : Tape) (v : Volume) (count i start k : ℕ) → IsTape n u → volume_in u ≡ Some v → IsPlaceIn n v count i start → is_used u k ≡ true → (k < start) ⊎ (start + count ≤ k)
place_apart n u v count i start k tape told place used = elim (or_cases (k == 0) _ used) [
  | inl first ↦ inl (omega (arith, eqb-true k 0 first, readable.0, place.low))
  | inr more ↦ elim (or_cases (nat_le (directory_start (record_at u 0)) k && nat_lt k (directory_end (record_at u 0))) _ more) [
    | inl directory ↦ inl (omega (arith, ltb-true k (directory_end (record_at u 0)) (and_parts _ _ directory).1, ap directory_end of_u.0, place.low))
    | inr file ↦
        let held = any_at [] (λ slot. is_file (length u) slot && holds k slot) (slots_of u) file in
        let both = and_parts (is_file (length u) (get_or (slots_of u) held.0 [])) _ held.2 in
        off_files held.0 held.1 (is_file_tells (length u) (get_or (slots_of u) held.0 []) both.0).0 both.1
  ]
]
  where
    of_u : (v.header ≡ record_at u 0) × (v.slots ≡ slots_of u)
    of_u = let tells = volume_tells u v told in (tells.1, tells.2)

    readable : (0 < directory_start v.header) × (directory_end v.header ≤ gate_of n)
    readable = let tells = readable_tells n v.header (volume_in_is n u v tape told).legal.readable in (tells.0, tells.2)

    off_files : (j : ℕ) → j < length (slots_of u) → is_live (get_or (slots_of u) j []) ≡ true → holds k (get_or (slots_of u) j []) ≡ true → (k < start) ⊎ (start + count ≤ k)
    off_files j lt live on = file_is_off n v count i start place j k
        (omega (arith, lt, ap (λ (xs : List (List ℕ)). length xs) of_u.1))
        (ap (λ (xs : List (List ℕ)). is_live (get_or xs j [])) of_u.1 ∙ live)
        (ap (λ (xs : List (List ℕ)). holds k (get_or xs j [])) of_u.1 ∙ on)

-- a place ends before the redo file of the version that the volume is adopted with
pub place_below_redo : (n : ℕ) (v : Volume) (version : Version) (count i start : ℕ) → IsVolume n v → is_adopted_with n version v.slots ≡ true → IsPlaceIn n v count i start → start + count ≤ redo_start version n
place_below_redo n v version count i start is adopted place =
    let found = any_at [] (is_redo_entry n version) v.slots adopted in
    let entry = redo_entry_tells n version (get_or v.slots found.0 []) found.2 in
    let whole : IsAdopted n v = record { volume = is; adopted = adopted_some n version v.slots adopted } in
    let at : found.0 ≡ redo_place v.slots = redo_is_alone n v found.0 whole found.1 (redo_file_is_named n (get_or v.slots found.0 []) entry.0) in
    let records : has_records (get_or v.slots found.0 []) ≡ true = (occupies_tells (get_or v.slots found.0 []) entry.1).1 in
    elim place.candidate [
      | inl purged ↦ omega (arith, place.behind found.0 (omega (arith, purged.0, at)) found.1 records, entry.2)
      | inr last ↦
          let same : found.0 ≡ i = at ∙ sym last.0 in
          omega (arith, place.own last.0 (omega (arith, same, found.1)) (subst (λ (m : ℕ). has_records (get_or v.slots m []) ≡ true) same records), ap (λ (m : ℕ). start_of (get_or v.slots m [])) same, entry.2)
    ]

-- ---- unused records

-- record k is used neither by the volume of the tape nor by its redo file of that version
pub record IsSpare (version : Version) (u : Tape) (k : ℕ) : Type 0 where
  pub unused : is_used u k ≡ false
  pub off_gate : k ≢ gate_of (length u)
  pub off_targets : k ≢ targets_place (length u)
  pub below : k < redo_start version (length u)

-- the records of a place are spare (for the run of writes of `store`)
pub place_unused : (n : ℕ) (u : Tape) (v : Volume) (version : Version) (count i start k : ℕ) → IsTape n u → volume_in u ≡ Some v → is_adopted_with n version v.slots ≡ true
    → IsPlaceIn n v count i start → start ≤ k → k < start + count → IsSpare version u k
place_unused n u v version count i start k tape told adopted place from under = record {
  unused = false_from_ne_true _ (λ used. elim (place_apart n u v count i start k tape told place used) [
    | inl less ↦ absurd (omega (arith, less, from))
    | inr more ↦ absurd (omega (arith, more, under))
  ]);
  off_gate = λ e. absurd (omega (arith, e, below_redo, tape.records, places.0));
  off_targets = λ e. absurd (omega (arith, e, below_redo, tape.records, places.1));
  below = omega (arith, below_redo, tape.records);
}
  where
    places : (redo_start version n ≤ gate_of n) × (redo_start version n ≤ targets_place n)
    places = redo_places version n

    below_redo : k < redo_start version n
    below_redo = omega (arith, under, place_below_redo n v version count i start (volume_in_is n u v tape told) adopted place)

-- ---- records that are written aside

-- A tape that agrees with a settled one on the records that its volume uses, on the gate and on the
-- targets record.
pub record IsAside (u c : Tape) : Type 0 where
  pub records : length c ≡ length u
  pub used : (k : ℕ) → is_used u k ≡ true → record_at c k ≡ record_at u k
  pub gate : record_at c (gate_of (length u)) ≡ record_at u (gate_of (length u))
  pub targets : record_at c (targets_place (length u)) ≡ record_at u (targets_place (length u))

-- it is settled, has the same volume, and its gate is no other file's (for stops and troubles while
-- `store` writes a file)
pub aside : (u c : Tape) → IsSettled u → IsAside u c → (redo_of c ≡ []) × (volume_of c ≡ volume_of u) × (is_foreign_gated c ≡ false)
aside u c is same =
    let quiet : redo_of c ≡ [] = quiet_agree u c is same.records same.gate same.targets in (
      quiet,
      volume_kept c u quiet (settled_has_none u is) same.records same.used,
      λ i. not (is_none (quiet i)) && is_gate_held (settled c),
    )

-- ---- runs of records at a place

-- a run that was broken off leaves all records but its own
pub partly_elsewhere : (first : ℕ) (pieces : List (List ℕ)) (old new : Tape) (k : ℕ) → PartlyReplaced first pieces old new → (k < first) ⊎ (first + length pieces ≤ k)
    → (length new ≡ length old) × (record_at new k ≡ record_at old k)
partly_elsewhere first pieces old new k partly out = go (nat_lt partly.count (length pieces)) refl partly.torn
  where
    taken : length (take partly.count pieces) ≡ partly.count
    taken = length-take-le partly.count pieces partly.in_range

    before : record_at partly.written k ≡ record_at old k
    before = elim out [ inl less ↦ partly.replaced.before k less | inr more ↦ partly.replaced.behind k (omega (arith, more, taken, partly.in_range)) ]

    go : (b : Bool) → nat_lt partly.count (length pieces) ≡ b → MatchBool b (Torn (first + partly.count) partly.written new) (new ≡ partly.written)
        → (length new ≡ length old) × (record_at new k ≡ record_at old k)
    go true e torn =
        let under : partly.count < length pieces = ltb-true partly.count (length pieces) e in
        (torn.records ∙ partly.replaced.records, torn.elsewhere k (λ at. elim out [ inl less ↦ absurd (omega (arith, at, less)) | inr more ↦ absurd (omega (arith, at, more, under)) ]) ∙ before)
    go false e same = (ap (λ (t : Tape). length t) same ∙ partly.replaced.records, ap (λ (t : Tape). record_at t k) same ∙ before)

pub aside_here : (u : Tape) → IsAside u u
aside_here u = record { records = refl; used = λ k on. refl; gate = refl; targets = refl }

-- One run more at spare records, after others that were written aside (for each file of a command
-- that writes several).
module _ (version : Version) (u t : Tape) (start : ℕ) (pieces : List (List ℕ)) (spare : (k : ℕ) → start ≤ k → k < start + length pieces → IsSpare version u k) (so_far : IsAside u t) where
  kept_aside : (c : Tape) → length c ≡ length t → ((k : ℕ) → (k < start) ⊎ (start + length pieces ≤ k) → record_at c k ≡ record_at t k) → IsAside u c
  kept_aside c long kept = record {
    records = long ∙ so_far.records;
    used = λ k on. elim (sides k) [
      | inl within ↦ let no : true ≡ false = sym on ∙ (spare k within.0 within.1).unused in cc
      | inr out ↦ kept k out ∙ so_far.used k on
    ];
    gate = elim (sides (gate_of (length u))) [
      | inl within ↦ absurd ((spare (gate_of (length u)) within.0 within.1).off_gate refl)
      | inr out ↦ kept (gate_of (length u)) out ∙ so_far.gate
    ];
    targets = elim (sides (targets_place (length u))) [
      | inl within ↦ absurd ((spare (targets_place (length u)) within.0 within.1).off_targets refl)
      | inr out ↦ kept (targets_place (length u)) out ∙ so_far.targets
    ];
  }
    where
      sides : (k : ℕ) → ((start ≤ k) × (k < start + length pieces)) ⊎ ((k < start) ⊎ (start + length pieces ≤ k))
      sides k = elim (cases_lt k start) [
        | inl less ↦ inr (inl less)
        | inr from ↦ elim (cases_lt k (start + length pieces)) [ inl under ↦ inl (from, under) | inr past ↦ inr (inr past) ]
      ]

  -- the whole run
  pub aside_written : (c : Tape) → Replaced start pieces t c → IsAside u c
  aside_written c done = kept_aside c done.records (λ k out. elim out [ inl less ↦ done.before k less | inr more ↦ done.behind k more ])

  -- some of its records, and the next one torn
  pub aside_partly : (c : Tape) → PartlyReplaced start pieces t c → IsAside u c
  aside_partly c partly = kept_aside c (long partly) (λ k out. (partly_elsewhere start pieces t c k partly out).1)
    where
      long : PartlyReplaced start pieces t c → length c ≡ length t
      long partly = (partly_elsewhere start pieces t c (start + length pieces) partly (inr (omega arith))).0

-- a file at a place
module _ (n : ℕ) (u : Tape) (v : Volume) (i start : ℕ) (pieces : List (List ℕ)) (tape : IsTape n u) (told : volume_in u ≡ Some v) (adopted : is_adopted n v.slots ≡ true)
    (place : IsPlaceIn n v (length pieces) i start) where
  spare_here : (k : ℕ) → start ≤ k → k < start + length pieces → IsSpare (adopted_version n v.slots adopted).0 u k
  spare_here k from under = place_unused n u v (adopted_version n v.slots adopted).0 (length pieces) i start k tape told (adopted_version n v.slots adopted).1 place from under

  -- all its records are written (for the commit of `store`, which follows)
  pub written_aside : (c : Tape) → Replaced start pieces u c → IsAside u c
  written_aside = aside_written (adopted_version n v.slots adopted).0 u u start pieces spare_here (aside_here u)

  -- some of them, and the next one is torn (for a stop or a trouble while `store` writes them)
  pub partly_aside : (c : Tape) → PartlyReplaced start pieces u c → IsAside u c
  partly_aside = aside_partly (adopted_version n v.slots adopted).0 u u start pieces spare_here (aside_here u)
