-- A store over the loop moves one record as it moves a run of one.
use Rattle.std.proofs.Common.{◌≡◌, ◌∙◌, ◌<◌, ℕ, List, [], ◌∷◌, length, ap, subst, arith}
use Rattle.std.specs.Prelude.{Result}
use Rattle.il_ports.specs.declared.records.Trouble.{Trouble}
use Rattle.il_ports.specs.Stores.{RecordsView, IsStore, Fetched, Stored, FetchedRun, StoredRun}
use Rattle.il_ports.proofs.OneRecord.{run_fetched, run_stored}
use Rattle.lif_model.specs.Shelf.{cut}
use Rattle.lif_model.proofs.Made.{piece_long}
use Rattle.std.proofs.lemmas.List.{take_all}

pub fetched_one : {S T : Type 0} (n count : ℕ) (bytes : List ℕ) (v w : RecordsView S) (answer : Result T Trouble) → count ≡ 1 → FetchedRun n count bytes v w answer → Fetched n bytes v w answer
fetched_one n count bytes v w answer one did = run_fetched n bytes v w answer (subst (λ count. FetchedRun n count bytes v w answer) one did)

-- a piece of 256 bytes is these
one_piece : (bytes : List ℕ) → length bytes ≡ 256 → cut 1 bytes ≡ bytes ∷ []
one_piece bytes long = ap (λ b. b ∷ []) (piece_long bytes (omega (arith, long)) ∙ take_all 256 bytes (omega (arith, long)))

pub stored_one : {S T : Type 0} (n : ℕ) (bytes : List ℕ) (v w : RecordsView S) (answer : Result T Trouble) → IsStore v → n < v.record_count → length bytes ≡ 256 → StoredRun n (cut 1 bytes) v w answer → Stored n bytes v w answer
stored_one n bytes v w answer store within long did = run_stored n bytes v w answer store within long (subst (λ pieces. StoredRun n pieces v w answer) (one_piece bytes long) did)
