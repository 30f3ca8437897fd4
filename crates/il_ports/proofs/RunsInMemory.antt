-- Runs of records in memory.
use Rattle.std.proofs.Common.{◌≡◌, ◌<◌, ◌≤◌, ◌+◌, ◌-◌, ◌*◌, ◌++◌, ℕ, zero, suc, List, [], ◌∷◌, true, length, get_or, set, take, refl, sym, ◌∙◌, ap, subst, arith, below_more, append_assoc}
use Rattle.std.proofs.lemmas.List.{get_or_default}
use Rattle.std.specs.Prelude.{Some, None, Result, Ok, Err}
use Rattle.lif_model.specs.Tape.{Tape, record_at, bytes_from}
use Rattle.lif_model.specs.Transfers.{Replaced, PartlyReplaced, WroteRun}
use Rattle.lif_model.proofs.Runs.{bytes_from_more, replaced_more, same_tape}
use Rattle.lif_model.specs.Redo.{Changes, changed}
use Rattle.lif_model.proofs.Commit.{changed_more}
use Rattle.il_ports.specs.Counted.{failing}
use Rattle.il_ports.specs.MemoryRecords.{RecordsState, counted, counted_run, placed, written_run, EndsAs, RunEnds}
use Rattle.il_ports.specs.declared.records.Trouble.{Trouble}

-- ---- counts

-- one record more
pub counted_more : (i : ℕ) (state : RecordsState) → counted {T = Unit {0}} (counted_run {T = Unit {0}} i state (Ok tt)) (Ok tt) ≡ counted_run {T = Unit {0}} (i + 1) state (Ok tt)
counted_more i state =
    let calls : state.calls + i + 1 ≡ state.calls + (i + 1) = omega arith in
    let left : state.left - i - 1 ≡ state.left - (i + 1) = omega arith in
    λ j. record state { calls = calls j; left = left j; sound = true }

-- the numbers of the records so far are not listed
pub passed_more : (calls i : ℕ) (fails : List (ℕ × Trouble)) → ((k : ℕ) → k < i → failing (calls + (k + 1)) fails ≡ None) → failing (calls + i + 1) fails ≡ None
    → (k : ℕ) → k < i + 1 → failing (calls + (k + 1)) fails ≡ None
passed_more calls i fails so_far here = below_more _ _ so_far (ap (λ (n : ℕ). failing n fails) sum ∙ here)
  where
    sum : calls + (i + 1) ≡ calls + i + 1
    sum = omega arith

-- ---- writes

placed_more : (first i : ℕ) (pieces : List (List ℕ)) → i < length pieces → placed first (take (suc i) pieces) ≡ placed first (take i pieces) ++ (first + i, get_or pieces i []) ∷ []
placed_more first i [] lt = absurd (omega (arith, lt))
placed_more first zero (piece ∷ pieces) lt = ap (λ (n : ℕ). (n, piece) ∷ []) (omega arith)
placed_more first (suc i) (piece ∷ pieces) lt =
    ap (λ (cs : Changes). (first, piece) ∷ cs) (placed_more (suc first) i pieces (omega (arith, lt)) ∙ ap (λ (n : ℕ). placed (suc first) (take i pieces) ++ (n, get_or pieces i []) ∷ []) (omega arith))

pub placed_next : (first i : ℕ) (pieces : List (List ℕ)) → i < length pieces → placed first (take (i + 1) pieces) ≡ placed first (take i pieces) ++ (first + i, get_or pieces i []) ∷ []
placed_next first i pieces lt = let next : i + 1 ≡ suc i = omega arith in ap (λ (n : ℕ). placed first (take n pieces)) next ∙ placed_more first i pieces lt

-- ---- reads

-- the bytes of one record more
pub bytes_more : (t : Tape) (first i : ℕ) (into new : List ℕ) → take (256 * i) into ≡ bytes_from t first i → take (256 * (i + 1)) new ≡ take (256 * i) into ++ record_at t (first + i)
    → take (256 * (i + 1)) new ≡ bytes_from t first (i + 1)
bytes_more t first i into new so_far is =
    let next : i + 1 ≡ suc i = omega arith in
    is ∙ ap (λ (l : List ℕ). l ++ record_at t (first + i)) so_far ∙ sym (bytes_from_more t first i) ∙ sym (ap (bytes_from t first) next)

-- the record that was read is the one of the tape
pub record_here : (t now : Tape) (n m : ℕ) (bytes : List ℕ) → bytes ≡ get_or now m bytes → now ≡ t → m ≡ n → n < length t → bytes ≡ record_at t n
record_here t now n m bytes is same place within = is ∙ (λ i. get_or (same i) (place i) bytes) ∙ get_or_default t n bytes [] within

-- ---- runs that end

-- a run of which the next record is listed
pub failed_run : {T : Type 0} (count done : ℕ) (state : RecordsState) (answer : Result T Trouble) (trouble : Trouble) → answer ≡ Err trouble → done < count
    → ((k : ℕ) → k < done → failing (state.calls + (k + 1)) state.fails ≡ None) → failing (state.calls + done + 1) state.fails ≡ Some trouble → RunEnds count done state answer
failed_run {T} count done state answer trouble is more so_far next = record {
  in_range = omega (arith, more);
  passed = so_far;
  ended = subst (λ (r : Result T Trouble). EndsAs count done (failing (state.calls + (done + 1)) state.fails) r) (sym is) (more, ap (λ (n : ℕ). failing n state.fails) sum ∙ next);
}
  where
    sum : state.calls + (done + 1) ≡ state.calls + done + 1
    sum = omega arith

-- ---- a run of writes

module _ (first i : ℕ) (pieces : List (List ℕ)) (old : RecordsState) where
  -- one piece more
  pub written_more : (loop counting now : RecordsState) (bytes : List ℕ) → i < length pieces → loop ≡ written_run {T = Unit {0}} first pieces i old (Ok tt) → counting ≡ counted {T = Unit {0}} loop (Ok tt) → bytes ≡ get_or pieces i []
      → now ≡ record counting { records = set counting.records (first + i) bytes; writes = counting.writes ++ (first + i, bytes) ∷ [] } → now ≡ written_run {T = Unit {0}} first pieces (i + 1) old (Ok tt)
  written_more loop counting now bytes more is counting_is bytes_are now_is = now_is ∙ (λ j. record (before j) { records = set (before j).records (first + i) (bytes_are j); writes = (before j).writes ++ (first + i, bytes_are j) ∷ [] }) ∙ last
    where
      before : counting ≡ counted {T = Unit {0}} (written_run {T = Unit {0}} first pieces i old (Ok tt)) (Ok tt)
      before = counting_is ∙ ap (λ s. counted {T = Unit {0}} s (Ok tt)) is

      this : ℕ × List ℕ
      this = (first + i, get_or pieces i [])

      placed_is : placed first (take i pieces) ++ this ∷ [] ≡ placed first (take (i + 1) pieces)
      placed_is = sym (placed_next first i pieces more)

      records_are : set (changed (placed first (take i pieces)) old.records) (first + i) (get_or pieces i []) ≡ changed (placed first (take (i + 1) pieces)) old.records
      records_are = sym (changed_more (placed first (take i pieces)) this old.records) ∙ ap (λ (cs : Changes). changed cs old.records) placed_is

      writes_are : (old.writes ++ placed first (take i pieces)) ++ this ∷ [] ≡ old.writes ++ placed first (take (i + 1) pieces)
      writes_are = append_assoc old.writes (placed first (take i pieces)) (this ∷ []) ∙ ap (λ (cs : Changes). old.writes ++ cs) placed_is

      calls : old.calls + i + 1 ≡ old.calls + (i + 1)
      calls = omega arith

      left : old.left - i - 1 ≡ old.left - (i + 1)
      left = omega arith

      last : record (counted {T = Unit {0}} (written_run {T = Unit {0}} first pieces i old (Ok tt)) (Ok tt)) {
        records = set (changed (placed first (take i pieces)) old.records) (first + i) (get_or pieces i []);
        writes = (old.writes ++ placed first (take i pieces)) ++ this ∷ [];
      } ≡ written_run {T = Unit {0}} first pieces (i + 1) old (Ok tt)
      last = λ j. record old { calls = calls j; left = left j; sound = true; records = records_are j; writes = writes_are j }

  -- a record that failed
  pub written_part : (loop now : RecordsState) (trouble : Trouble) → loop ≡ written_run {T = Unit {0}} first pieces i old (Ok tt) → now ≡ counted {T = Unit {0}} loop (Err trouble) → now ≡ written_run {T = Unit {0}} first pieces i old (Err trouble)
  written_part loop now trouble is now_is = now_is ∙ ap (λ s. counted {T = Unit {0}} s (Err trouble)) is ∙ last trouble
    where
      calls : old.calls + i + 1 ≡ old.calls + (i + 1)
      calls = omega arith

      left : old.left - i - 1 ≡ old.left - (i + 1)
      left = omega arith

      last : (t : Trouble) → counted {T = Unit {0}} (written_run {T = Unit {0}} first pieces i old (Ok tt)) (Err t) ≡ written_run {T = Unit {0}} first pieces i old (Err t)
      last t = λ j. record (counted {T = Unit {0}} (written_run {T = Unit {0}} first pieces i old (Ok tt)) (Err t)) { calls = calls j; left = left j }

-- the tape and the moments after one piece more
module _ (first i : ℕ) (pieces : List (List ℕ)) (t u now : Tape) (bytes : List ℕ) (more : i < length pieces) (bytes_are : bytes ≡ get_or pieces i []) (now_is : now ≡ set u (first + i) bytes) where
  pub replaced_next : first + length pieces ≤ length t → Replaced first (take i pieces) t u → Replaced first (take (i + 1) pieces) t now
  replaced_next fits done = subst (Replaced first (take (i + 1) pieces) t) (sym (now_is ∙ ap (λ (b : List ℕ). set u (first + i) b) bytes_are)) (replaced_more first i pieces t u more done fits)

-- what a run of writes that fails leaves
pub wrote_part : {T : Type 0} (first : ℕ) (pieces : List (List ℕ)) (t u : Tape) (answer : Result T Trouble) (trouble : Trouble) → answer ≡ Err trouble → PartlyReplaced first pieces t u → WroteRun first pieces (Some t) (Some u) answer
wrote_part {T} first pieces t u answer trouble is partly = subst (λ (r : Result T Trouble). WroteRun first pieces (Some t) (Some u) r) (sym is) (λ x told. (u, refl, subst (λ (y : Tape). PartlyReplaced first pieces y u) (same_tape t x told) partly))

-- and one that does not
pub wrote_all : (first : ℕ) (pieces : List (List ℕ)) (t u : Tape) → Replaced first pieces t u → WroteRun {T = Unit {0}} {E = Trouble} first pieces (Some t) (Some u) (Ok tt)
wrote_all first pieces t u all x told = (u, refl, subst (λ (y : Tape). Replaced first pieces y u) (same_tape t x told) all)
