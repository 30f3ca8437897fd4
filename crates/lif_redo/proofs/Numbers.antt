-- How a targets record is written and read, number by number.
use Rattle.std.proofs.Common.{◌≡◌, ◌<◌, ◌≤◌, ◌+◌, ◌-◌, ◌*◌, ◌/◌, ◌%◌, ◌++◌, ℕ, zero, suc, List, [], ◌∷◌, length, get_or, set, take, replicate, refl, sym, ◌∙◌, ap, arith, length-append, length-take, append_assoc}
use Rattle.std.specs.List.{flat_map}
use Rattle.std.proofs.lemmas.List.{take_more, take_all, set-append_right}
use Rattle.lif_model.specs.Numbers.{two_at}
use Rattle.lif_model.specs.Made.{in_two}
use Rattle.lif_model.specs.declared.version.Version.{Version}
use Rattle.lif_model.specs.Redo.{redo_text, most_targets, numbers_at, targets_record}
use Rattle.lif_model.proofs.Texts.{record_parts, text_size, numbers_size, most_fit}

-- ---- written

-- the text, the count and the first numbers, and then zeros
abbrev pub partly : Version → ℕ → List ℕ → List ℕ
partly version count ts = redo_text version ++ (in_two count ++ (flat_map in_two ts ++ replicate (246 - 2 * length ts) 0))

numbers_more : (ts : List ℕ) (t : ℕ) (rest : List ℕ) → flat_map in_two (ts ++ t ∷ []) ++ rest ≡ flat_map in_two ts ++ (in_two t ++ rest)
numbers_more [] t rest = refl
numbers_more (s ∷ ts) t rest = ap (λ (bs : List ℕ). s / 256 ∷ s % 256 ∷ bs) (numbers_more ts t rest)

-- two bytes set after a front of n bytes
pair_set : (front rest : List ℕ) (n a b : ℕ) → length front ≡ n → set (set (front ++ 0 ∷ 0 ∷ rest) n a) (n + 1) b ≡ front ++ a ∷ b ∷ rest
pair_set front rest n a b size =
    let none : n - n ≡ 0 = omega arith in
    let one : n + 1 - n ≡ 1 = omega arith in
    ap (λ (bs : List ℕ). set bs (n + 1) b) (set-append_right front (0 ∷ 0 ∷ rest) n n a size (omega arith) ∙ ap (λ (k : ℕ). front ++ set (0 ∷ 0 ∷ rest) k a) none)
    ∙ set-append_right front (a ∷ 0 ∷ rest) n (n + 1) b size (omega arith) ∙ ap (λ (k : ℕ). front ++ set (a ∷ 0 ∷ rest) k b) one

-- one number more
pub partly_more : (version : Version) (count i : ℕ) (ts : List ℕ) → i < length ts → length ts ≤ most_targets version
    → set (set (partly version count (take i ts)) (10 + 2 * i) (get_or ts i 0 / 256)) (10 + 2 * i + 1) (get_or ts i 0 % 256) ≡ partly version count (take (i + 1) ts)
partly_more version count i ts lt le =
    let t : ℕ = get_or ts i 0 in
    let some : List ℕ = flat_map in_two (take i ts) in
    let front : List ℕ = redo_text version ++ (in_two count ++ some) in
    let rest : List ℕ = replicate (244 - 2 * i) 0 in
    let taken : length (take i ts) ≡ i = omega (arith, length-take i ts) in
    let size : length front ≡ 10 + 2 * i = length-append (redo_text version) (in_two count ++ some) ∙ omega (arith, text_size version, numbers_size (take i ts), taken) in
    let more : 246 - 2 * length (take i ts) ≡ suc (suc (244 - 2 * i)) = omega (arith, taken, lt, le, most_fit version) in
    let zeros : replicate (246 - 2 * length (take i ts)) 0 ≡ 0 ∷ 0 ∷ rest = ap (λ (k : ℕ). replicate k 0) more in
    let here : partly version count (take i ts) ≡ front ++ 0 ∷ 0 ∷ rest =
    ap (λ (bs : List ℕ). redo_text version ++ (in_two count ++ (some ++ bs))) zeros ∙ sym (append_assoc (redo_text version) (in_two count ++ some) (0 ∷ 0 ∷ rest)) in
    let later : take (i + 1) ts ≡ take i ts ++ t ∷ [] = take_more ts i 0 lt in
    let left : 246 - 2 * length (take i ts ++ t ∷ []) ≡ 244 - 2 * i = omega (arith, length-append (take i ts) (t ∷ []), taken) in
    ap (λ (bs : List ℕ). set (set bs (10 + 2 * i) (t / 256)) (10 + 2 * i + 1) (t % 256)) here
    ∙ pair_set front rest (10 + 2 * i) (t / 256) (t % 256) size
    ∙ append_assoc (redo_text version) (in_two count ++ some) (in_two t ++ rest)
    ∙ sym (ap (λ (bs : List ℕ). redo_text version ++ (in_two count ++ bs)) (numbers_more (take i ts) t rest))
    ∙ sym (ap (λ (us : List ℕ). partly version count us) later ∙ ap (λ (k : ℕ). redo_text version ++ (in_two count ++ (flat_map in_two (take i ts ++ t ∷ []) ++ replicate k 0))) left)

pub partly_all : (version : Version) (i : ℕ) (ts : List ℕ) → length ts ≤ i → length ts ≤ most_targets version → partly version (length ts) (take i ts) ≡ targets_record version ts
partly_all version i ts all le = ap (λ (us : List ℕ). partly version (length ts) us) (take_all i ts all) ∙ sym (record_parts version ts le)

-- ---- read

-- one number more
pub numbers_next : (bytes : List ℕ) (k i : ℕ) → numbers_at bytes k (i + 1) ≡ numbers_at bytes k i ++ two_at bytes (k + 2 * i) ∷ []
numbers_next bytes k zero = ap (λ (j : ℕ). two_at bytes j ∷ []) (omega arith)
numbers_next bytes k (suc i) =
    let same : suc i + 1 ≡ suc (i + 1) = omega arith in
    let place : k + 2 + 2 * i ≡ k + 2 * suc i = omega arith in
    let rest : numbers_at bytes (k + 2) (i + 1) ≡ numbers_at bytes (k + 2) i ++ two_at bytes (k + 2 * suc i) ∷ [] =
    numbers_next bytes (k + 2) i ∙ ap (λ (j : ℕ). numbers_at bytes (k + 2) i ++ two_at bytes j ∷ []) place in
    ap (numbers_at bytes k) same ∙ ap (λ (ns : List ℕ). two_at bytes k ∷ ns) rest
