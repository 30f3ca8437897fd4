-- A read and a write of one record are runs of one record.
use Rattle.std.proofs.Common.{◌≡◌, ◌<◌, ◌∙◌, ⊎_elim, inl, inr, ℕ, List, [], ◌∷◌, ◌++◌, length, sym, ap, subst, arith, append-nil}
use Rattle.std.specs.Prelude.{Option, Some, Result, Ok, Err, true}
use Rattle.lif_model.specs.Tape.{Tape, IsTape, DidRead, DidReadRun, record_at}
use Rattle.lif_model.specs.Stops.{Wrote, Elapses}
use Rattle.lif_model.specs.Transfers.{Transfer, WroteRun}
use Rattle.lif_model.proofs.Runs.{bytes_from_one, replaced_one, torn_one}
use Rattle.il_ports.specs.Transfers.{Added, Adds}
use Rattle.il_ports.specs.Stores.{RecordsView, IsStore, Fetched, Stored, FetchedRun, StoredRun}
use Rattle.il_ports.specs.declared.records.Trouble.{Trouble}

-- ---- reads

read_run : {T : Type 0} (n : ℕ) (bytes : List ℕ) (tape : Option Tape) (r : Result T Trouble) → DidRead n bytes tape r → DidReadRun n 1 bytes tape r
read_run n bytes tape (Ok x) did = λ t told. did t told ∙ sym (bytes_from_one t n)
read_run n bytes tape (Err x) did = tt

run_read : {T : Type 0} (n : ℕ) (bytes : List ℕ) (tape : Option Tape) (r : Result T Trouble) → DidReadRun n 1 bytes tape r → DidRead n bytes tape r
run_read n bytes tape (Ok x) did = λ t told. did t told ∙ bytes_from_one t n
run_read n bytes tape (Err x) did = tt

pub run_fetched : {S T : Type 0} (n : ℕ) (bytes : List ℕ) (v w : RecordsView S) (r : Result T Trouble) → FetchedRun n 1 bytes v w r → Fetched n bytes v w r
run_fetched n bytes v w r did = record { goes_on = did.goes_on; quiet = did.quiet; content = run_read n bytes v.tape r did.content; transfers = did.transfers }

-- ---- writes

abbrev writing : ℕ → List ℕ → Transfer
writing n bytes = record { writes = true; first = n; bytes = bytes }

adds_same : {T : Type 0} (n : ℕ) (a b : List ℕ) (old new : List Transfer → Type 0) (r : Result T Trouble) → a ≡ b → Adds (writing n a) old new r → Adds (writing n b) old new r
adds_same n a b old new (Ok x) same added = subst (λ (bytes : List ℕ). Added (writing n bytes) old new) same added
adds_same n a b old new (Err x) same added = tt

-- another relation of the same tapes
elapses_as : (m₀ m₁ : ℕ) (s₀ s₁ : ℕ → Tape → Type 0) (tape : Option Tape) (P Q : Tape → Tape → Type 0) → ((t : Tape) → tape ≡ Some t → (c : Tape) → P t c → Q t c) → Elapses m₀ m₁ s₀ s₁ tape P → Elapses m₀ m₁ s₀ s₁ tape Q
elapses_as m₀ m₁ s₀ s₁ tape P Q here time = record {
  later = time.later;
  nothing_else = λ t told m c le left. ⊎_elim (λ past. inl past) (λ now. inr (here t told c now)) (time.nothing_else t told m c le left);
  keeps = time.keeps;
}

module _ (n count : ℕ) (bytes : List ℕ) (tape : Option Tape) (is : (t : Tape) → tape ≡ Some t → IsTape count t) (within : n < count) (whole : length bytes ≡ 256) where
  inside : (t : Tape) → tape ≡ Some t → n < length t
  inside t told = omega (arith, within, (is t told).records)

  same_size : (t : Tape) → tape ≡ Some t → length bytes ≡ length (record_at t n)
  same_size t told = whole ∙ sym ((is t told).bytes n within)

  run_wrote : {T : Type 0} (new : Option Tape) (r : Result T Trouble) → WroteRun n (bytes ∷ []) tape new r → Wrote n bytes tape new r
  run_wrote new (Ok x) did = λ t told. let u = did t told in u.1 ∙ ap Some (replaced_one n bytes t u.0 (inside t told) u.2)
  run_wrote new (Err x) did = λ t told. let u = did t told in (u.0, u.1, torn_one n bytes t u.0 (same_size t told) (inside t told) u.2)

pub run_stored : {S T : Type 0} (n : ℕ) (bytes : List ℕ) (v w : RecordsView S) (r : Result T Trouble) → IsStore v → n < v.record_count → length bytes ≡ 256 → StoredRun n (bytes ∷ []) v w r → Stored n bytes v w r
run_stored n bytes v w r store within whole did = record {
  goes_on = did.goes_on;
  content = run_wrote n v.record_count bytes v.tape store.is_tape within whole w.tape r did.content;
  time = elapses_as _ _ _ _ v.tape _ _
      (λ t told c partly.
      torn_one n bytes t c (same_size n v.record_count bytes v.tape store.is_tape within whole t told) (inside n v.record_count bytes v.tape store.is_tape within whole t told) partly) did.time;
  transfers = adds_same n (bytes ++ []) bytes v.transferred w.transferred r (append-nil bytes) did.transfers;
}
