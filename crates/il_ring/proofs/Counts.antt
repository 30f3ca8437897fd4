-- What a journey adds to the counts: crossings of links and frames of devices, in the words of the entries that it appends.
use Rattle.std.proofs.Common.{◌≡◌, ◌≤◌, ◌<◌, ◌+◌, ◌++◌, ◌⊎◌, inl, inr, ⊎_elim, ℕ, zero, suc, List, [], ◌∷◌, length, sum_by, count_by, cond, sym, ap, subst, ◌∙◌, arith, append_assoc, length-append}
use Rattle.std.proofs.lemmas.List.Sums.{sum_by-append}
use Rattle.il_frames.specs.declared.entry.Entry.{Entry}
use Rattle.il_device.specs.State.{DeviceState, risen, risen_by}
use Rattle.loop_model.specs.Reach.{links_of, brings_to}
use Rattle.il_ring.specs.Journeys.{Trip}
use Rattle.il_ring.specs.Ways.{on_way, brought}

-- ---- counts that rose

pub risen_by-add : (a b n : ℕ) → risen_by (a + b) n ≡ risen_by b (risen_by a n)
risen_by-add zero b n = let sum : 0 + b ≡ b = omega arith in ap (λ k. risen_by k n) sum
risen_by-add (suc a) b n = let sum : suc a + b ≡ suc (a + b) = omega arith in ap (λ k. risen_by k n) sum ∙ risen_by-add a b (risen n)

-- ---- frames of devices

-- each device, the first of which is party j + 1, took this many frames as lead from the one count of its party to the other
abbrev pub Framed : (ℕ → ℕ) → (ℕ → ℕ) → ℕ → List DeviceState → List DeviceState → Type 0
Framed before after j [] [] = Unit {0}
Framed before after j (d ∷ ds) (e ∷ es) = ((c : ℕ) × (e.frames ≡ risen_by c d.frames) × (c + before (j + 1) ≡ after (j + 1))) × Framed before after (j + 1) ds es
Framed before after j [] (e ∷ es) = ⊥
Framed before after j (d ∷ ds) [] = ⊥

-- other counts for the same frames
framed_as : (b a b₂ a₂ : ℕ → ℕ) (j : ℕ) (ds es : List DeviceState) → ((q c : ℕ) → j < q → q ≤ j + length ds → c + b q ≡ a q → c + b₂ q ≡ a₂ q) → Framed b a j ds es → Framed b₂ a₂ j ds es
framed_as b a b₂ a₂ j [] [] same framed = tt
framed_as b a b₂ a₂ j (d ∷ ds) (e ∷ es) same framed = (
  (framed.0.0, framed.0.1, same (j + 1) framed.0.0 (omega arith) (omega arith) framed.0.2),
  framed_as b a b₂ a₂ (j + 1) ds es (λ q c low high. same q c (omega (arith, low)) (omega (arith, high))) framed.1,
)
framed_as b a b₂ a₂ j [] (e ∷ es) same framed = absurd framed
framed_as b a b₂ a₂ j (d ∷ ds) [] same framed = absurd framed

framed_append : (b a : ℕ → ℕ) (j : ℕ) (ds es xs ys : List DeviceState) → Framed b a j ds es → Framed b a (j + length ds) xs ys → Framed b a j (ds ++ xs) (es ++ ys)
framed_append b a j [] [] xs ys first more = subst (λ j. Framed b a j xs ys) (omega arith) more
framed_append b a j (d ∷ ds) (e ∷ es) xs ys first more = (first.0, framed_append b a (j + 1) ds es xs ys first.1 (subst (λ j. Framed b a j xs ys) (omega arith) more))
framed_append b a j [] (e ∷ es) xs ys first more = absurd first
framed_append b a j (d ∷ ds) [] xs ys first more = absurd first

-- ---- a part of a journey

abbrev pub entries_to : ℕ → ℕ → List Entry → ℕ
entries_to k q entries = count_by (brings_to k q) entries

-- From the trip t to the trip u, on a ring of k devices, past the devices after party j: these entries, this many links, and
-- the frames that each device took.
pub record Counted (k j : ℕ) (t : Trip) (ds : List DeviceState) (u : Trip) (es : List DeviceState) : Type 0 where
  pub entries : List Entry
  pub log : u.log ≡ t.log ++ entries
  pub links : ℕ
  pub crossings : u.crossings ≡ risen_by links t.crossings
  pub linked : links + on_way k j t.flight ≡ sum_by (links_of k) entries + on_way k (j + length ds) u.flight
  pub inside : Framed (λ q. brought k j q t.flight) (λ q. entries_to k q entries + brought k (j + length ds) q u.flight) j ds es
  pub outside : (q : ℕ) → 1 ≤ q → q ≤ k → (q ≤ j) ⊎ (j + length ds < q) → brought k j q t.flight ≡ entries_to k q entries + brought k (j + length ds) q u.flight

pub entries_append : (k q : ℕ) (xs ys : List Entry) → entries_to k q (xs ++ ys) ≡ entries_to k q xs + entries_to k q ys
entries_append k q xs ys = sum_by-append (λ e. cond (brings_to k q e) 1 0) xs ys

-- one part after the other
pub counted_append : (k j : ℕ) (t m u : Trip) (ds es xs ys : List DeviceState) → j + length ds + length xs ≤ k → Counted k j t ds m es → Counted k (j + length ds) m xs u ys → Counted k j t (ds ++ xs) u (es ++ ys)
counted_append k j t m u ds es xs ys within first more =
    let far : j + length (ds ++ xs) ≡ j + length ds + length xs = omega (arith, length-append ds xs) in
    let brings : (q : ℕ) → entries_to k q (first.entries ++ more.entries) + brought k (j + length (ds ++ xs)) q u.flight ≡ entries_to k q first.entries + (entries_to k q more.entries + brought k (j + length ds + length xs) q u.flight) =
    λ q. ap (λ j. entries_to k q (first.entries ++ more.entries) + brought k j q u.flight) far ∙ (let sum = entries_append k q first.entries more.entries in omega (arith, sum)) in
    record {
      entries = first.entries ++ more.entries;
      log = more.log ∙ ap (λ log. log ++ more.entries) first.log ∙ append_assoc t.log first.entries more.entries;
      links = first.links + more.links;
      crossings = more.crossings ∙ ap (risen_by more.links) first.crossings ∙ sym (risen_by-add first.links more.links t.crossings);
      linked =
          let sum = sum_by-append (links_of k) first.entries more.entries in
          let same = ap (λ j. on_way k j u.flight) far in
          omega (arith, sum, same, first.linked, more.linked);
      inside = framed_append (λ q. brought k j q t.flight) (λ q. entries_to k q (first.entries ++ more.entries) + brought k (j + length (ds ++ xs)) q u.flight) j ds es xs ys
          (framed_as (λ q. brought k j q t.flight) (λ q. entries_to k q first.entries + brought k (j + length ds) q m.flight) (λ q. brought k j q t.flight) (λ q. entries_to k q (first.entries ++ more.entries) + brought k (j + length (ds ++ xs)) q u.flight) j ds es
          (λ q c low high known. let next = more.outside q (omega (arith, low)) (omega (arith, high, within)) (inl (omega (arith, high))) in let all = brings q in omega (arith, known, next, all)) first.inside)
          (framed_as (λ q. brought k (j + length ds) q m.flight) (λ q. entries_to k q more.entries + brought k (j + length ds + length xs) q u.flight) (λ q. brought k j q t.flight) (λ q. entries_to k q (first.entries ++ more.entries) + brought k (j + length (ds ++ xs)) q u.flight) (j + length ds) xs ys
          (λ q c low high known. let before = first.outside q (omega (arith, low)) (omega (arith, high, within)) (inr (omega (arith, low))) in let all = brings q in omega (arith, known, before, all)) more.inside);
      outside = λ q some most where_.
          let before = first.outside q some most (⊎_elim (λ low. inl low) (λ high. inr (omega (arith, high, far))) where_) in
          let next = more.outside q some most (⊎_elim (λ low. inl (omega (arith, low))) (λ high. inr (omega (arith, high, far))) where_) in
          let all = brings q in omega (arith, before, next, all);
    }
