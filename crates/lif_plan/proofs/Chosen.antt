-- The place of a new file, and what is planned for it.
use Rattle.std.proofs.Common.{◌≡◌, ◌≢◌, ◌<◌, ◌+◌, ◌*◌, ◌^◌, min, nat_le, ℕ, List, [], ◌∷◌, if◌then◌else◌, length, inl, inr, refl, sym, ap, ◌∙◌, arith}
use Rattle.std.specs.Prelude.{filter, nat_eq, not, Option, Some, None, Result, Ok, Err}
use Rattle.std.specs.List.{list_any}
use Rattle.std.proofs.lemmas.Bool.{cases_lt, lt-leb}
use Rattle.lif_model.specs.Tape.{Tape, record_at}
use Rattle.lif_model.specs.Gate.{gate_of}
use Rattle.lif_model.specs.Header.{HeaderParts, directory_start, directory_end, capacity_of}
use Rattle.lif_model.specs.Directory.{type_of, start_of, length_of}
use Rattle.lif_model.specs.Made.{new_entry, file_length}
use Rattle.lif_model.specs.Volume.{Volume, is_adopted_with}
use Rattle.lif_model.specs.Fit.{Place, At, low_of, high_of, slots_behind, candidates, first_fit, fit_among, fit_in, fit_beside, fit_beside_in}
use Rattle.lif_model.specs.Apply.{Store, first_met, store_checks, placed, stored, part_made, lacks_slot, lacks_room}
use Rattle.lif_model.specs.Parts.{Part}
use Rattle.lif_model.specs.Parts as part
use Rattle.lif_model.specs.declared.refusal.Refusal.{Refusal}
use Rattle.lif_model.specs.declared.refusal.Refusal.TheVariants.{NoSlot, NoRoom}
use Rattle.lif_model.specs.declared.version.Version.{Version}
use Rattle.lif_model.specs.Writing.{SlotWrites, changes_by, stored_writes, part_writes}
use Rattle.lif_model.proofs.Made.{new_start, new_length, new_type}
use Rattle.lif_model.proofs.Fit.{high_below, IsPlace, fit_beside_tells, fit_beside_none}
use Rattle.lif_model.proofs.Adopted.{adopted_some}
use Rattle.lif_dir.specs.declared.change.Change.{Change}
use Rattle.lif_dir.specs.declared.entries.FileEntry.{FileEntry}
use Rattle.lif_dir.specs.Changes.{FitsIn, change_writes, bytes_with}
use Rattle.lif_dir.specs.Entries.{entry_bytes}
use Rattle.lif_dir.proofs.Bytes.{HasWidths, kind_back, start_back, length_back}
use Rattle.lif_plan.specs.Plans.{IsNameFree, IsPlan}
use Rattle.lif_plan.specs.Parts.{place_beside, part_refusal, MakesPart, IsPartPlan}
use Rattle.lif_plan.proofs.Planning.{Holds, of_slots}

-- ---- a file with more records than any medium

room_same : (low count high : ℕ) → high < 65536 → nat_le (low + min count 65536) high ≡ nat_le (low + count) high
room_same low count high small = elim (cases_lt count 65536) [
  | inl fits ↦ let same : min count 65536 ≡ count = omega (arith, fits) in ap (λ (k : ℕ). nat_le (low + k) high) same
  | inr over ↦ lt-leb (low + min count 65536) high (omega (arith, over, small)) ∙ sym (lt-leb (low + count) high (omega (arith, over, small)))
]

first_same : (n low : ℕ) (slots : List (List ℕ)) (count : ℕ) (cs : List ℕ) → gate_of n < 65536 → first_fit n low slots (min count 65536) cs ≡ first_fit n low slots count cs
first_same n low slots count [] small = refl
first_same n low slots count (k ∷ cs) small =
    let below : high_of n slots k < 65536 = omega (arith, small, high_below (gate_of n) (slots_behind slots k)) in
    λ i. if room_same (low_of low slots k) count (high_of n slots k) below i then At k (low_of low slots k) else first_same n low slots count cs small i

fit_same : (n low capacity : ℕ) (slots : List (List ℕ)) (barred : List ℕ) (count : ℕ) → gate_of n < 65536
    → fit_beside n low capacity slots barred (min count 65536) ≡ fit_beside n low capacity slots barred count
fit_same n low capacity slots barred count small = go (filter (λ i. not (list_any (nat_eq i) barred)) (candidates capacity slots))
  where
    go : (cs : List ℕ) → fit_among n low slots (min count 65536) cs ≡ fit_among n low slots count cs
    go [] = refl
    go (k ∷ cs) = first_same n low slots count (k ∷ cs) small

-- ---- what is planned, by the numbers that are told of the directory and of the file

module _ (n : ℕ) (small : n < 2 ^ 16) (name : List ℕ) (kind : ℕ) (implementation bytes : List ℕ) (barred : List ℕ) (header : HeaderParts) (slots : List (List ℕ)) (version : Version) (named : IsNameFree n name slots version)
    {past records count : ℕ} (place : Place) (told : place ≡ fit_beside n past (8 * records) slots barred count) (ends : past ≡ header.start + header.length) (long : records ≡ header.length)
    (counted : count ≡ min (file_length bytes) 65536) where
  chosen : fit_beside n (header.start + header.length) (8 * header.length) slots barred (min (file_length bytes) 65536) ≡ place
  chosen = (λ i. fit_beside n (sym ends i) (8 * sym long i) slots barred (sym counted i)) ∙ sym told

  abbrev p : Part
  p = part.Store name kind implementation bytes

  place_is : Holds n header slots (λ v. fit_beside_in n v barred (file_length bytes) ≡ place)
  place_is v is = (λ i. let h = is.told i in fit_beside n (h.start + h.length) (8 * h.length) slots barred (file_length bytes)) ∙ sym (fit_same n (header.start + header.length) (8 * header.length) slots barred (file_length bytes) (omega (arith, small))) ∙ chosen

  pub store_refusal : Holds n header slots (λ v. part_refusal n barred p v ≡ (if lacks_slot place then Some NoSlot else if lacks_room place then Some NoRoom else None))
  store_refusal v is = simp (adopted_some n version slots named.adopted, named.other, named.none_named, place_is v is) refl

  module _ (slot start : ℕ) (at : place ≡ At slot start) where
    pub tells : IsPlace n (header.start + header.length) (8 * header.length) slots (min (file_length bytes) 65536) slot start
    tells = (fit_beside_tells n (header.start + header.length) (8 * header.length) slots barred (min (file_length bytes) 65536) slot start (chosen ∙ at)).0

    count_is : min (file_length bytes) 65536 ≡ file_length bytes
    count_is = omega (arith, tells.high, small)

    module _ (entry : FileEntry) (widths : HasWidths entry) (made : entry_bytes entry ≡ new_entry name kind start (min (file_length bytes) 65536) implementation) where
      entry_is : new_entry name kind start (file_length bytes) implementation ≡ entry_bytes entry
      entry_is = sym (made ∙ ap (λ (k : ℕ). new_entry name kind start k implementation) count_is)

      starts : entry.start ≡ start
      starts = sym (start_back entry widths) ∙ sym (ap (λ (b : List ℕ). start_of b) entry_is) ∙ new_start name kind start (file_length bytes) implementation named.ten

      counts : entry.length ≡ file_length bytes
      counts = sym (length_back entry widths) ∙ sym (ap (λ (b : List ℕ). length_of b) entry_is) ∙ new_length name kind start (file_length bytes) implementation named.ten

      pub kinds : entry.kind ≡ kind
      kinds = sym (kind_back entry widths) ∙ sym (ap (λ (b : List ℕ). type_of b) entry_is) ∙ new_type name kind start (file_length bytes) implementation named.ten

      pub places : kind ≢ 0 → kind ≢ 0xFFFF → length implementation ≡ 4 → (c : Change) → c.version ≡ version → c.slot ≡ slot → c.entry ≡ entry → FitsIn (8 * header.length) (length slots) c
          → ((v : Volume) (u : Tape) → v.slots ≡ slots → capacity_of v.header ≡ 8 * header.length → directory_start (record_at u 0) ≡ header.start → stored_writes v slot (entry_bytes entry) u ≡ change_writes header.start c u)
          → placed slots slot (entry_bytes entry) ≡ bytes_with c slots
          → MakesPart n p barred header slots c
      places live no_end four c version_is slot_is has_entry fits writes after = record {
        formed = (named.ten, live, no_end, four);
        fits = fits;
        free = of_slots (λ v. part_refusal n barred p v ≡ None) (λ v is. store_refusal v is ∙ ap (λ (q : Place). if lacks_slot q then Some NoSlot else if lacks_room q then Some NoRoom else None) at);
        commits = λ v is. ap (is_adopted_with n c.version) is.same ∙ ap (λ (w : Version). is_adopted_with n w slots) version_is ∙ named.adopted;
        file = record {
          chosen = of_slots (λ v. fit_beside_in n v barred (file_length bytes) ≡ At c.slot c.entry.start) (λ v is. place_is v is ∙ at ∙ (λ i. At (sym slot_is i) (sym (ap (λ (e : FileEntry). e.start) has_entry ∙ starts) i)));
          count = ap (λ (e : FileEntry). e.length) has_entry ∙ counts;
          low = omega (arith, tells.low, ap (λ (e : FileEntry). e.start) has_entry, starts);
          high = omega (arith, tells.high, count_is, ap (λ (e : FileEntry). e.start) has_entry, starts, ap (λ (e : FileEntry). e.length) has_entry, counts);
        };
        purges = λ v is. refl;
        writes = of_slots (λ v. (u : Tape) → directory_start (record_at u 0) ≡ header.start → part_writes p v (place_beside n barred p v) u ≡ change_writes header.start c u)
            (λ v is u begins. ap (λ (q : Place). part_writes p (record v { slots = slots }) q u) (place_is v is ∙ at)
            ∙ ap (λ (b : List ℕ). stored_writes (record v { slots = slots }) slot b u) entry_is
            ∙ writes (record v { slots = slots }) u refl (ap (λ (h : HeaderParts). 8 * h.length) is.told) begins);
        after = of_slots (λ v. (part_made (place_beside n barred p v) p v).slots ≡ bytes_with c slots)
            (λ v is. ap (λ (q : Place). (stored (record v { slots = slots }) name kind implementation bytes q).slots) (place_is v is ∙ at) ∙ ap (placed slots slot) entry_is ∙ after);
      }

-- ---- a store by itself

-- is a part of a batch that has purged no slot
pub store_plan : (n : ℕ) (name : List ℕ) (kind : ℕ) (implementation bytes : List ℕ) (header : HeaderParts) (slots : List (List ℕ)) (r : Result (Option Change) Refusal)
    → IsPartPlan n (part.Store name kind implementation bytes) [] header slots r → IsPlan n (Store name kind implementation bytes) header slots r
store_plan n name kind implementation bytes header slots r plan = go r plan
  where
    p : Part
    p = part.Store name kind implementation bytes

    same : (v : Volume) → fit_beside_in n v [] (file_length bytes) ≡ fit_in n v (file_length bytes)
    same v = fit_beside_none n (directory_end v.header) (capacity_of v.header) v.slots (file_length bytes)

    go : (r : Result (Option Change) Refusal) → IsPartPlan n p [] header slots r → IsPlan n (Store name kind implementation bytes) header slots r
    go (Err why) refuses = record {
      refused = λ v is. sym (ap (λ (q : Place). first_met (store_checks n v name q)) (same v)) ∙ refuses.refused v is;
      known = refuses.known;
    }
    go (Ok None) leaves = record {
      formed = leaves.formed;
      free = λ v is. sym (ap (λ (q : Place). first_met (store_checks n v name q)) (same v)) ∙ leaves.free v is;
      nothing = λ v is u. ap (λ (ws : SlotWrites). changes_by (directory_start v.header) ws u) (sym (ap (λ (q : Place). part_writes p v q u) (same v)) ∙ leaves.writes v is u);
      same = λ v is. sym (ap (λ (q : Place). stored v name kind implementation bytes q) (same v)) ∙ leaves.same v is;
    }
    go (Ok (Some change)) makes = record {
      formed = makes.formed;
      fits = makes.fits;
      free = λ v is. sym (ap (λ (q : Place). first_met (store_checks n v name q)) (same v)) ∙ makes.free v is;
      commits = makes.commits;
      file = record { chosen = λ v is. sym (same v) ∙ makes.file.chosen v is; count = makes.file.count; low = makes.file.low; high = makes.file.high };
      writes = λ v is u begins. sym (ap (λ (q : Place). part_writes p v q u) (same v)) ∙ makes.writes v is u begins;
      after = λ v is. sym (ap (λ (q : Place). (stored v name kind implementation bytes q).slots) (same v)) ∙ makes.after v is;
    }
