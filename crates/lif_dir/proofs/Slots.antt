-- The slots of a directory, one record and one entry after another.
use Rattle.std.proofs.Common.{◌≡◌, ℕ, zero, suc, ◌+◌, ◌<◌, Bool, true, false, ◌||◌, if◌then◌else◌, List, [], ◌∷◌, ◌++◌, drop, map, refl, ap, sym, ◌∙◌, append_assoc, append-nil, arith, ◌≤◌}
use Rattle.std.specs.List.{list_any}
use Rattle.std.proofs.lemmas.List.{map-append}
use Rattle.std.proofs.lemmas.List.Sums.{take_while-cons}
use Rattle.lif_model.specs.Tape.{Tape, record_at}
use Rattle.lif_model.specs.Directory.{is_end, is_purged, entry_at, entries_of, entries_from, before_end, slots_from}
use Rattle.lif_dir.specs.declared.entries.FileEntry.{FileEntry}
use Rattle.lif_dir.specs.declared.entries.Slot.{Slot}
use Rattle.lif_dir.specs.declared.entries.Slot.TheVariants.{Live, Purged, End}
use Rattle.lif_dir.specs.Entries.{entry_from, slot_from, slot_bytes}

-- ---- the end

pub before_end-end : (x : List ℕ) (xs : List (List ℕ)) → is_end x ≡ true → before_end (x ∷ xs) ≡ []
before_end-end x xs e = rw (take_while-cons, e)

pub before_end-entry : (x : List ℕ) (xs : List (List ℕ)) → is_end x ≡ false → before_end (x ∷ xs) ≡ x ∷ before_end xs
before_end-entry x xs e = rw (take_while-cons, e)

append_past : (b : Bool) (x : List ℕ) (xs ys : List (List ℕ)) → is_end x ≡ b
    → before_end (xs ++ ys) ≡ before_end xs ++ (if list_any is_end xs then [] else before_end ys)
    → before_end (x ∷ (xs ++ ys)) ≡ before_end (x ∷ xs) ++ (if b || list_any is_end xs then [] else before_end ys)
append_past true x xs ys e h = before_end-end x (xs ++ ys) e ∙ ap (λ l. l ++ []) (sym (before_end-end x xs e))
append_past false x xs ys e h = before_end-entry x (xs ++ ys) e ∙ ap (λ l. x ∷ l) h
    ∙ ap (λ l. l ++ (if list_any is_end xs then [] else before_end ys)) (sym (before_end-entry x xs e))

before_end-append : (xs ys : List (List ℕ)) → before_end (xs ++ ys) ≡ before_end xs ++ (if list_any is_end xs then [] else before_end ys)
before_end-append [] ys = refl
before_end-append (x ∷ xs) ys = append_past (is_end x) x xs ys refl (before_end-append xs ys)

-- ---- one entry

pub drop_entries : (bytes : List ℕ) (k : ℕ) → k < 8 → drop k (entries_of bytes) ≡ entry_at bytes k ∷ drop (k + 1) (entries_of bytes)
unfolding entries_of
drop_entries bytes zero h = refl
drop_entries bytes (suc zero) h = refl
drop_entries bytes (suc (suc zero)) h = refl
drop_entries bytes (suc (suc (suc zero))) h = refl
drop_entries bytes (suc (suc (suc (suc zero)))) h = refl
drop_entries bytes (suc (suc (suc (suc (suc zero))))) h = refl
drop_entries bytes (suc (suc (suc (suc (suc (suc zero)))))) h = refl
drop_entries bytes (suc (suc (suc (suc (suc (suc (suc zero))))))) h = refl
drop_entries bytes (suc (suc (suc (suc (suc (suc (suc (suc k)))))))) h = absurd (omega arith)

eight : (bytes : List ℕ) → drop 8 (entries_of bytes) ≡ []
unfolding entries_of
eight bytes = refl

pub no_more : (bytes : List ℕ) (k : ℕ) → 8 ≤ k → k ≤ 8 → drop k (entries_of bytes) ≡ []
no_more bytes k low high = let all : k ≡ 8 = omega arith in rw all (eight bytes)

-- ---- the slot of an entry

end_told : (e p : Bool) (entry : FileEntry) → (if e then End else if p then Purged entry else Live entry) ≡ End → e ≡ true
end_told true p entry h = refl
end_told false true entry h = cc
end_told false false entry h = cc

entry_told : (e p : Bool) (entry : FileEntry) → ((if e then End else if p then Purged entry else Live entry) ≡ End → ⊥) → e ≡ false
entry_told true p entry h = absurd (h refl)
entry_told false p entry h = refl

ends : (x : List ℕ) → slot_from x ≡ End → is_end x ≡ true
ends x h = end_told (is_end x) (is_purged x) (entry_from x) h

pub goes_on : (x : List ℕ) → (slot_from x ≡ End → ⊥) → is_end x ≡ false
goes_on x h = entry_told (is_end x) (is_purged x) (entry_from x) h

-- ---- entry k of a record, whose bytes are b

first_of : (bytes b : List ℕ) (k : ℕ) → k < 8 → b ≡ entry_at bytes k → drop k (entries_of bytes) ≡ b ∷ drop (k + 1) (entries_of bytes)
first_of bytes b k within e = drop_entries bytes k within ∙ ap (λ x. x ∷ drop (k + 1) (entries_of bytes)) (sym e)

pub stops : (bytes b : List ℕ) (k : ℕ) → k < 8 → b ≡ entry_at bytes k → slot_from b ≡ End → before_end (drop k (entries_of bytes)) ≡ []
stops bytes b k within e h = ap before_end (first_of bytes b k within e) ∙ before_end-end b (drop (k + 1) (entries_of bytes)) (ends b h)

pub has_end : (bytes b : List ℕ) (k : ℕ) → k < 8 → b ≡ entry_at bytes k → slot_from b ≡ End → list_any is_end (drop k (entries_of bytes)) ≡ true
has_end bytes b k within e h =
    ap (λ l. list_any is_end l) (first_of bytes b k within e) ∙ ap (λ v. v || list_any is_end (drop (k + 1) (entries_of bytes))) (ends b h)

more : (bytes b : List ℕ) (k : ℕ) → k < 8 → b ≡ entry_at bytes k → is_end b ≡ false
    → before_end (drop k (entries_of bytes)) ≡ b ∷ before_end (drop (k + 1) (entries_of bytes))
more bytes b k within e h = ap before_end (first_of bytes b k within e) ∙ before_end-entry b (drop (k + 1) (entries_of bytes)) h

pub has_end_later : (bytes b : List ℕ) (k : ℕ) → k < 8 → b ≡ entry_at bytes k → is_end b ≡ false
    → list_any is_end (drop k (entries_of bytes)) ≡ list_any is_end (drop (k + 1) (entries_of bytes))
has_end_later bytes b k within e h =
    ap (λ l. list_any is_end l) (first_of bytes b k within e) ∙ ap (λ v. v || list_any is_end (drop (k + 1) (entries_of bytes))) h

pub slots_step : (bytes b : List ℕ) (k : ℕ) (first table new : List Slot) (slot : Slot) → k < 8 → b ≡ entry_at bytes k → is_end b ≡ false → slot ≡ slot_from b
    → new ≡ table ++ slot ∷ [] → first ≡ table ++ map slot_from (before_end (drop k (entries_of bytes)))
    → first ≡ new ++ map slot_from (before_end (drop (k + 1) (entries_of bytes)))
slots_step bytes b k first table new slot within e h told pushed sofar =
    let rest : List Slot = map slot_from (before_end (drop (k + 1) (entries_of bytes))) in
    sofar ∙ ap (λ l. table ++ map slot_from l) (more bytes b k within e h) ∙ ap (λ s. table ++ s ∷ rest) (sym told)
    ∙ sym (append_assoc table (slot ∷ []) rest) ∙ ap (λ l. l ++ rest) (sym pushed)

pub bytes_step : (bytes b : List ℕ) (k : ℕ) (first : List (List ℕ)) (table new : List Slot) (slot : Slot) → k < 8 → b ≡ entry_at bytes k → is_end b ≡ false
    → slot_bytes slot ≡ b
    → new ≡ table ++ slot ∷ [] → first ≡ map slot_bytes table ++ before_end (drop k (entries_of bytes))
    → first ≡ map slot_bytes new ++ before_end (drop (k + 1) (entries_of bytes))
bytes_step bytes b k first table new slot within e h told pushed sofar =
    let rest : List (List ℕ) = before_end (drop (k + 1) (entries_of bytes)) in
    sofar ∙ ap (λ l. map slot_bytes table ++ l) (more bytes b k within e h) ∙ ap (λ x. map slot_bytes table ++ x ∷ rest) (sym told)
    ∙ sym (append_assoc (map slot_bytes table) (slot_bytes slot ∷ []) rest) ∙ ap (λ l. l ++ rest) (sym (map-append slot_bytes table (slot ∷ [])))
    ∙ ap (λ l. map slot_bytes l ++ rest) (sym pushed)

-- ---- one record

end_in : (xs ys : List (List ℕ)) → list_any is_end xs ≡ true → before_end (xs ++ ys) ≡ before_end xs
end_in xs ys h = before_end-append xs ys ∙ ap (λ b. before_end xs ++ (if b then [] else before_end ys)) h ∙ append-nil (before_end xs)

end_behind : (xs ys : List (List ℕ)) → list_any is_end xs ≡ false → before_end (xs ++ ys) ≡ before_end xs ++ before_end ys
end_behind xs ys h = before_end-append xs ys ∙ ap (λ b. before_end xs ++ (if b then [] else before_end ys)) h

-- the directory ends in record n
pub slots_end : (t : Tape) (bytes : List ℕ) (n m : ℕ) → 0 < m → bytes ≡ record_at t n → list_any is_end (entries_of bytes) ≡ true
    → slots_from t n m ≡ before_end (entries_of bytes)
slots_end t bytes n zero within e h = absurd (omega arith)
slots_end t bytes n (suc m) within e h =
    ap (λ r. before_end (entries_of r ++ entries_from t (suc n) m)) (sym e) ∙ end_in (entries_of bytes) (entries_from t (suc n) m) h

-- it goes on after record n
pub slots_more : (t : Tape) (bytes : List ℕ) (n m k : ℕ) → m ≡ k + 1 → bytes ≡ record_at t n → list_any is_end (entries_of bytes) ≡ false
    → slots_from t n m ≡ before_end (entries_of bytes) ++ slots_from t (n + 1) k
slots_more t bytes n zero k later e h = absurd (omega arith)
slots_more t bytes n (suc m) k later e h =
    let next : suc n ≡ n + 1 = omega arith in
    let same : m ≡ k = omega arith in
    ap (λ r. before_end (entries_of r ++ entries_from t (suc n) m)) (sym e) ∙ end_behind (entries_of bytes) (entries_from t (suc n) m) h
    ∙ ap (λ i. before_end (entries_of bytes) ++ slots_from t i m) next ∙ ap (λ i. before_end (entries_of bytes) ++ slots_from t (n + 1) i) same

-- ---- what is still to come, at the last part and one part later

pub last_part : {X : Type 0} (first old new now whole : List X) → first ≡ old ++ whole → whole ≡ now → new ≡ old ++ now → new ≡ first
last_part first old new now whole sofar last grown = grown ∙ ap (λ l. old ++ l) (sym last) ∙ sym sofar

pub mapped_last : {X Y : Type 0} (f : X → Y) (first old new : List Y) (now whole : List X) → first ≡ old ++ map f whole → whole ≡ now → new ≡ old ++ map f now → new ≡ first
mapped_last f first old new now whole sofar last grown = last_part first old new (map f now) (map f whole) sofar (ap (map f) last) grown

pub parts_step : {X : Type 0} (first old new now rest whole : List X) → first ≡ old ++ whole → whole ≡ now ++ rest → new ≡ old ++ now → first ≡ new ++ rest
parts_step first old new now rest whole sofar split grown = sofar ∙ ap (λ l. old ++ l) split ∙ sym (append_assoc old now rest) ∙ ap (λ l. l ++ rest) (sym grown)

pub mapped_step : {X Y : Type 0} (f : X → Y) (first old new : List Y) (now rest whole : List X) → first ≡ old ++ map f whole → whole ≡ now ++ rest
    → new ≡ old ++ map f now → first ≡ new ++ map f rest
mapped_step f first old new now rest whole sofar split grown =
    parts_step first old new (map f now) (map f rest) (map f whole) sofar (ap (map f) split ∙ map-append f now rest) grown
