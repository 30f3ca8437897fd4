-- A file that is read after mounting.
use Rattle.std.proofs.Common.{◌≡◌, ◌<◌, ◌≤◌, ◌+◌, ◌*◌, ◌++◌, ℕ, suc, zero, List, [], ◌∷◌, Bool, true, false, if◌then◌else◌, not, length, map, take, get_or, inl, inr, refl, sym, ap, subst, ◌∙◌, arith, append_assoc}
use Rattle.std.specs.Prelude.{◌-◌, ◌&&◌, nat_lt, Option, Some, None, Result, Ok, IfSome, is_some, option_map, unwrap_or}
use Rattle.std.specs.List.{position_or_len}
use Rattle.std.proofs.lemmas.Bool.{cases_Bool, and_from, ltb-false}
use Rattle.lif_model.specs.Tape.{Tape, bytes_from}
use Rattle.lif_model.specs.Header.{HeaderParts, directory_end}
use Rattle.lif_model.specs.Directory.{start_of, length_of, slots_of}
use Rattle.lif_model.specs.Redo.{settled}
use Rattle.lif_model.specs.Legal.{is_live, has_records, is_live_named, has_file, slot_named, is_legal}
use Rattle.lif_model.specs.Volume.{Volume, content_of}
use Rattle.lif_model.specs.Apply.{Fetch, refusal_of, is_protected, lacks_file}
use Rattle.lif_model.specs.declared.refusal.Refusal.TheVariants.{Protected, NoFile}
use Rattle.lif_model.specs.Transfers.{Transfer}
use Rattle.lif_model.proofs.Legal.{legal_tells}
use Rattle.lif_model.proofs.Slots.{readable_tells, live_named_tells}
use Rattle.lif_model.proofs.Lookups.{slot_is_at, fetched_bytes}
use Rattle.lif_model.proofs.Directory.{volume_from}
use Rattle.il_ports.specs.declared.records.Trouble.{Trouble}
use Rattle.il_ports.specs.Stores.{RecordsView, IsReady, GoesOn}
use Rattle.il_ports.specs.Transfers.{Added, GoesOnBy}
use Rattle.il_ports.proofs.Stores.{goes_further, goes_within}
use Rattle.il_ports.proofs.Transfers.{one_read, then_more}
use Rattle.lif_dir.specs.Entries.{slot_bytes}
use Rattle.lif_plan.specs.declared.directory.File.{File}
use Rattle.lif_volume.specs.declared.fault.VolumeFault.{VolumeFault}
use Rattle.lif_plan.specs.Entries.{IsFileOf}
use Rattle.lif_volume.specs.Views.{VolumeView, IsOpen}
use Rattle.lif_plan.specs.Directories.{IsLegalDirectory}
use Rattle.lif_volume.specs.Commands.{Consults, EndsWithRead, FetchedFile, mounting, mounting_on, reading, fetching, fetching_on, records_named}
use Rattle.lif_plan.proofs.Found.{found, at, nowhere}
use Rattle.lif_volume.proofs.Mounting.{volume_on, first_by}

same_some : {X : Type 0} (x y : X) → Some x ≡ Some y → x ≡ y
same_some x y e = cc

-- ---- where its records lie

-- they leave room for the directory, and end within the medium
pub record Fits (n : ℕ) (header : HeaderParts) (slot : List ℕ) : Type 0 where
  pub directory : header.length + length_of slot + 1 ≤ n
  pub within : 0 < length_of slot → start_of slot + length_of slot ≤ n

pub file_fits : (n : ℕ) (header : HeaderParts) (slots : List (List ℕ)) (name slot : List ℕ) → 37 < n → IsLegalDirectory n header slots → slot_named slots name ≡ Some slot → Fits n header slot
file_fits n header slots name slot size legal named = elim (found slots name) [
  | nowhere lacks place none ↦ let both : None ≡ Some slot = sym none ∙ named in cc
  | at k lt live place here ↦
      let same : get_or slots k [] ≡ slot = same_some (get_or slots k []) slot (sym here ∙ named) in
      let is = legal_tells n legal.bytes slots legal.legal in
      let readable = readable_tells n legal.bytes is.readable in
      let long = ap (λ (h : HeaderParts). h.length) legal.told in
      elim (cases_Bool (nat_lt 0 (length_of slot))) [
        | inl some ↦
            let on : is_live (get_or slots k []) && has_records (get_or slots k []) ≡ true =
            and_from _ _ (live_named_tells name (get_or slots k []) live).0 (ap (λ (s : List ℕ). nat_lt 0 (length_of s)) same ∙ some) in
            let within = is.within k lt on in
            let low : directory_end legal.bytes ≤ start_of slot = subst (λ (s : List ℕ). directory_end legal.bytes ≤ start_of s) same within.0 in
            let high : start_of slot + length_of slot ≤ n = subst (λ (s : List ℕ). start_of s + length_of s ≤ n) same within.1 in
            record { directory = omega (arith, low, high, long, readable.0); within = λ more. high }
        | inr none ↦
            let zero_long : length_of slot ≤ 0 = ltb-false 0 (length_of slot) none in
            record { directory = omega (arith, zero_long, long, readable.0, readable.2, size); within = λ more. absurd (omega (arith, more, zero_long)) }
      ]
]

-- ---- how many records are read

few_mounted : (n : ℕ) (old : Option HeaderParts) (new : HeaderParts) → mounting n old (Some new) ≤ 71 + new.length
few_mounted n None new = omega arith
few_mounted n (Some old) new = omega arith

module _ {R S : Type 0} (view : R → RecordsView S) (x y : VolumeView R) (header : HeaderParts) (name slot : List ℕ) (count : ℕ)
    (size : 37 < (view x.records).record_count) (kept : y.kept ≡ Some header)
    (mounted : Consults {T = HeaderParts} (mounting (view x.records).record_count x.kept y.kept) (λ t. mounting_on t x.kept) view x y (Ok header))
    (legal : IsLegalDirectory (view x.records).record_count header (map slot_bytes y.slots))
    (named : slot_named (map slot_bytes y.slots) name ≡ Some slot) (same : count ≡ length_of slot) where
  fits : Fits (view x.records).record_count header slot
  fits = file_fits (view x.records).record_count header (map slot_bytes y.slots) name slot size legal named

  goes : GoesOn {T = Unit {0}} (mounting (view x.records).record_count x.kept (Some header)) (view x.records) (view y.records) (Ok tt)
  goes = subst (λ (k : Option HeaderParts). GoesOn {T = Unit {0}} (mounting (view x.records).record_count x.kept k) (view x.records) (view y.records) (Ok tt)) kept mounted.goes_on

  pub file_ready : 2 * (view x.records).record_count + 40 ≤ (view x.records).calls_left → IsReady count (view y.records)
  file_ready left = record {
    valid = goes.continues.valid;
    sound = goes.continues.sound;
    left = omega (arith, left, goes.continues.left, few_mounted (view x.records).record_count x.kept header, fits.directory, same, size);
  }

  pub file_room : (long : ℕ) → 256 * (view x.records).record_count ≤ long → 256 * count ≤ long
  file_room long room = omega (arith, room, fits.directory, same)

  pub file_within : (first : ℕ) → first ≡ start_of slot → 0 < count → first + count ≤ (view y.records).record_count
  file_within first start some = omega (arith, fits.within (omega (arith, some, same)), goes.continues.size, start, same)

  -- so many at most, and whatever the reading answers; `a` is no refusal
  pub file_goes_on : {T F : Type 0} (records : R) (answer : Result T Trouble) (a : Result F VolumeFault) → ((s : List (List ℕ)) → reading s name a ≡ records_named s name) → ((h : HeaderParts) → x.kept ≡ Some h → map slot_bytes y.slots ≡ map slot_bytes x.slots) → GoesOn count (view y.records) (view records) answer
      → GoesOn (fetching (view x.records).record_count name x.kept (map slot_bytes x.slots) a) (view x.records) (view records) answer
  file_goes_on records answer a whole still read = go x.kept refl
    where
      n : ℕ
      n = (view x.records).record_count

      far : GoesOn (mounting n x.kept (Some header) + count) (view x.records) (view records) answer
      far = goes_further (mounting n x.kept (Some header)) count (view x.records) (view y.records) (view records) tt answer goes read

      go : (k : Option HeaderParts) → x.kept ≡ k → GoesOn (fetching n name k (map slot_bytes x.slots) a) (view x.records) (view records) answer
      go None e =
          let calls : mounting n x.kept (Some header) ≡ 71 + header.length = ap (λ (k : Option HeaderParts). mounting n k (Some header)) e in
          goes_within (mounting n x.kept (Some header) + count) (n + 70) (view x.records) (view records) answer (omega (arith, calls, fits.directory, same)) far
      go (Some h) e =
          let calls : mounting n x.kept (Some header) ≡ 0 = ap (λ (k : Option HeaderParts). mounting n k (Some header)) e in
          let all : reading (map slot_bytes x.slots) name a ≡ length_of slot =
          whole (map slot_bytes x.slots) ∙ ap (λ (s : List (List ℕ)). records_named s name) (sym (still h e)) ∙ ap (λ (o : Option (List ℕ)). unwrap_or (option_map length_of o) 0) named in
          goes_within (mounting n x.kept (Some header) + count) (reading (map slot_bytes x.slots) name a) (view x.records) (view records) answer (omega (arith, calls, all, same)) far

  pub file_few : {T F : Type 0} (records : R) (answer : Result T Trouble) (a : Result F VolumeFault) → ((s : List (List ℕ)) → reading s name a ≡ records_named s name) → (t : Tape) → (view x.records).tape ≡ Some t → map slot_bytes y.slots ≡ slots_of (settled t) → GoesOn count (view y.records) (view records) answer
      → (view x.records).calls_left ≤ (view records).calls_left + fetching_on t name x.kept a
  file_few records answer a whole t told bytes read =
      let all : reading (slots_of (settled t)) name a ≡ length_of slot =
      whole (slots_of (settled t)) ∙ ap (λ (s : List (List ℕ)). records_named s name) (sym bytes) ∙ ap (λ (o : Option (List ℕ)). unwrap_or (option_map length_of o) 0) named in
      omega (arith, mounted.few t told, read.continues.left, all, same)

  -- none only where the directory is kept and the file has no records
  pub file_idle : {F : Type 0} (a : Result F VolumeFault) → ((s : List (List ℕ)) → reading s name a ≡ records_named s name) → ((h : HeaderParts) → x.kept ≡ Some h → map slot_bytes y.slots ≡ map slot_bytes x.slots)
      → fetching (view x.records).record_count name x.kept (map slot_bytes x.slots) a ≡ 0 → (is_some x.kept ≡ true) × (count ≡ 0)
  file_idle a whole still = go x.kept refl
    where
      n : ℕ
      n = (view x.records).record_count

      go : (k : Option HeaderParts) → x.kept ≡ k → fetching n name k (map slot_bytes x.slots) a ≡ 0 → (is_some k ≡ true) × (count ≡ 0)
      go None e none = absurd (omega (arith, none))
      go (Some h) e none =
          let all : reading (map slot_bytes x.slots) name a ≡ length_of slot =
          whole (map slot_bytes x.slots) ∙ ap (λ (s : List (List ℕ)). records_named s name) (sym (still h e)) ∙ ap (λ (o : Option (List ℕ)). unwrap_or (option_map length_of o) 0) named in
          (refl, omega (arith, none, all, same))

-- where a fetch makes no call, the directory is kept
pub fetching_kept : {T : Type 0} (n : ℕ) (name : List ℕ) (old : Option HeaderParts) (slots : List (List ℕ)) (a : Result T VolumeFault) → fetching n name old slots a ≡ 0 → is_some old ≡ true
fetching_kept n name None slots a none = absurd (omega (arith, none))
fetching_kept n name (Some header) slots a none = refl

-- ---- between the calls

pub legal_of : {R S : Type 0} (view : R → RecordsView S) (y : VolumeView R) (header : HeaderParts) (n : ℕ) → IsOpen view y → y.kept ≡ Some header → (view y.records).record_count ≡ n
    → IsLegalDirectory n header (map slot_bytes y.slots)
legal_of view y header n is kept size = subst (λ (m : ℕ). IsLegalDirectory m header (map slot_bytes y.slots)) size
    (subst (λ (k : Option HeaderParts). IfSome k (λ h. IsLegalDirectory (view y.records).record_count h (map slot_bytes y.slots))) kept is.legal)

pub open_reading : {R S : Type 0} (view : R → RecordsView S) (y : VolumeView R) (records : R) → IsOpen view y → (view records).valid
    → (view records).record_count ≡ (view y.records).record_count → (view records).tape ≡ (view y.records).tape → IsOpen view (record y { records = records })
open_reading view y records is valid size tape = record {
  valid = valid;
  size = omega (arith, size, is.size);
  small = omega (arith, size, is.small);
  room = is.room ∙ ap (λ (n : ℕ). 8 * (n - 5)) (sym size);
  legal = subst (λ (n : ℕ). IfSome y.kept (λ h. IsLegalDirectory n h (map slot_bytes y.slots))) (sym size) is.legal;
  known = λ t told. is.known t (sym tape ∙ told);
  gate = λ t told. is.gate t (sym tape ∙ told);
  end = λ t told. is.end t (sym tape ∙ told);
}

-- ---- the list of reads and writes

pub ends_with_read : (P : ℕ → Type 0) (kept : Bool) (first : ℕ) (bytes : List ℕ) (old mid new : List Transfer → Type 0) → (kept ≡ true → mid ≡ old) → GoesOnBy P old mid
    → Added (record { writes = false; first = first; bytes = bytes }) mid new → EndsWithRead P kept first bytes old new
ends_with_read P kept first bytes old mid new same before added = record {
  goes_on = λ list was.
      let a = first_by P kept old mid same before list was in
      (a.0, subst new (append_assoc list a.0 (record { writes = false; first = first; bytes = bytes } ∷ [])) (added.at_end (list ++ a.0) a.1), a.2, a.3);
}

-- a run, or nothing
pub run_behind : (P : ℕ → Type 0) (first count : ℕ) (bytes : List ℕ) (old mid new : List Transfer → Type 0) → GoesOnBy P old mid
    → (0 < count → Added (record { writes = false; first = first; bytes = bytes }) mid new) → (count ≡ 0 → GoesOnBy P old new) → GoesOnBy P old new
run_behind P first zero bytes old mid new before run none = none refl
run_behind P first (suc k) bytes old mid new before run none = then_more P old mid new before (one_read P first bytes mid new (run (omega arith)))

-- ---- the file

not_refused : (protected lacks : Bool) → (if protected then Some Protected else (if lacks then Some NoFile else None)) ≡ None → (protected ≡ false) × (lacks ≡ false)
not_refused true lacks e = cc
not_refused false true e = cc
not_refused false false e = (refl, refl)

pub file_is_fetched : (n : ℕ) (t : Tape) (slots : List (List ℕ)) (name slot : List ℕ) (file : File) (into : List ℕ) → length (settled t) ≡ n → is_legal (settled t) ≡ true
    → slots ≡ slots_of (settled t) → slot_named slots name ≡ Some slot → IsFileOf slot file → ((v : Volume) → v.slots ≡ slots → refusal_of n (Fetch name) (Some v) ≡ None)
    → take (256 * file.count) into ≡ bytes_from (settled t) file.first file.count
    → FetchedFile t name (record { kind = file.kind; implementation = file.implementation; length = 256 * file.count }) into
file_is_fetched n t slots name slot file into size legal bytes named is free content =
    let s = settled t in
    let here : slot_named (slots_of s) name ≡ Some slot = ap (λ (xs : List (List ℕ)). slot_named xs name) (sym bytes) ∙ named in
    let off = not_refused (is_protected n (volume_on s) name) (lacks_file (volume_on s) name) (free (volume_on s) (sym bytes)) in
    let has : has_file (slots_of s) name ≡ true = has_not (has_file (slots_of s) name) off.1 in
    let k = position_or_len (is_live_named name) (slots_of s) in
    let same : get_or (slots_of s) k [] ≡ slot = same_some _ _ (sym (slot_is_at (slots_of s) name has).found ∙ here) in
    let all : content_of s (get_or (slots_of s) k []) ≡ take (256 * file.count) into =
    ap (content_of s) same ∙ sym (content ∙ (λ i. bytes_from s (is.first i) (is.count i))) in
    record {
      volume = volume_on s;
      of_tape = volume_from s legal;
      slot = slot;
      named = here;
      kind = is.kind;
      implementation = is.implementation;
      length = ap (λ (k : ℕ). 256 * k) is.count;
      bytes = fetched_bytes n s (volume_on s) name size (volume_from s legal) off.0 has ∙ ap Some all;
    }
  where
    has_not : (b : Bool) → not b ≡ false → b ≡ true
    has_not true e = refl
    has_not false e = cc
