-- Bytes of a file, and the records that they read as.
use Rattle.std.proofs.Common.{min, length-append, ◌≡◌, ◌≢◌, ◌⊎◌, ◌<◌, ◌≤◌, ◌+◌, ◌*◌, ◌-◌, ◌++◌, ℕ, List, [], length, get_or-set_same, get_or-set_other, length-set, set, take, drop, replicate, inl, inr, refl, sym, ap, ◌∙◌, arith, subst}
use Rattle.std.proofs.lemmas.Bool.{cases_lt, cases_eq}
use Rattle.std.proofs.lemmas.List.{ext_get_or, get_or_append_left, get_or-append_right, get_or-take, get_or-drop, get_or-replicate, get_or_past, length-take, length-take-le, length-drop, length-replicate, take_all}
use borrow.Rule.Slice.PartMut.{put_mid, post_of, mid_of}
use Rattle.lif_model.specs.Tape.{record_at}
use Rattle.lif_model.specs.Shelf.{piece, cut}
use Rattle.lif_model.specs.Stops.{Torn}
use Rattle.lif_model.proofs.Made.{length_cut, piece_size}
use Rattle.lif_model.proofs.Runs.{piece_at}
use Rattle.il_ports.specs.Files.{byte_at, IsOutside, Overlaid, Mixed}

-- ---- reads from the end on

pub zeros_at : (n i : ℕ) → byte_at (replicate n 0) i ≡ 0
zeros_at n i = go (cases_lt i n)
  where
    go : (i < n) ⊎ (n ≤ i) → byte_at (replicate n 0) i ≡ 0
    go (inl lt) = get_or-replicate n i 0 0 lt
    go (inr le) = get_or_past (replicate n 0) i 0 (omega (arith, le, length-replicate {A = ℕ} n 0))

piece_byte : (bytes : List ℕ) (i : ℕ) → i < 256 → byte_at (piece bytes) i ≡ byte_at bytes i
unfolding piece
piece_byte bytes i lt = go (cases_lt i (length bytes))
  where
    size : length (take 256 bytes) ≡ min 256 (length bytes)
    size = length-take 256 bytes

    go : (i < length bytes) ⊎ (length bytes ≤ i) → byte_at (take 256 bytes ++ replicate (256 - length bytes) 0) i ≡ byte_at bytes i
    go (inl within) = get_or_append_left (take 256 bytes) _ 0 i (omega (arith, size, within, lt)) ∙ get_or-take 256 bytes i 0 lt
    go (inr behind) =
        get_or-append_right (take 256 bytes) _ (length (take 256 bytes)) i 0 refl (omega (arith, size, behind)) ∙ zeros_at (256 - length bytes) _ ∙ sym (get_or_past bytes i 0 behind)

-- ---- records

-- byte i of record k
pub record_byte : (n k i : ℕ) (bytes : List ℕ) → k < n → i < 256 → byte_at (record_at (cut n bytes) k) i ≡ byte_at bytes (256 * k + i)
record_byte n k i bytes lt below =
    ap (λ (r : List ℕ). byte_at r i) (piece_at n k bytes lt) ∙ piece_byte (drop (256 * k) bytes) i below ∙ get_or-drop (256 * k) bytes i 0

pub record_size : (n k : ℕ) (bytes : List ℕ) → k < n → length (record_at (cut n bytes) k) ≡ 256
record_size n k bytes lt = ap (λ (r : List ℕ). length r) (piece_at n k bytes lt) ∙ piece_size (drop (256 * k) bytes)

-- a record has these bytes
pub record_is : (n k : ℕ) (bytes record_bytes : List ℕ) → k < n → length record_bytes ≡ 256
    → ((i : ℕ) → i < 256 → byte_at record_bytes i ≡ byte_at bytes (256 * k + i)) → record_bytes ≡ record_at (cut n bytes) k
record_is n k bytes record_bytes lt size same =
    ext_get_or 0 record_bytes (record_at (cut n bytes) k) (size ∙ sym (record_size n k bytes lt))
    (λ i below. let in_it : i < 256 = omega (arith, below, size) in same i in_it ∙ sym (record_byte n k i bytes lt in_it))

record_same : (n k : ℕ) (old new : List ℕ) → ((i : ℕ) → i < 256 → byte_at new (256 * k + i) ≡ byte_at old (256 * k + i))
    → record_at (cut n new) k ≡ record_at (cut n old) k
record_same n k old new same = go (cases_lt k n)
  where
    go : (k < n) ⊎ (n ≤ k) → record_at (cut n new) k ≡ record_at (cut n old) k
    go (inl lt) = record_is n k old (record_at (cut n new) k) lt (record_size n k new lt) (λ i below. record_byte n k i new lt below ∙ same i below)
    go (inr le) = get_or_past (cut n new) k [] (omega (arith, le, length_cut n new)) ∙ sym (get_or_past (cut n old) k [] (omega (arith, le, length_cut n old)))

-- the bytes of another record are elsewhere
apart : (k j i : ℕ) → j ≢ k → i < 256 → IsOutside (256 * k) 256 (256 * j + i)
apart k j i ne below = go (cases_lt j k) (cases_lt k j)
  where
    go : (j < k) ⊎ (k ≤ j) → (k < j) ⊎ (j ≤ k) → IsOutside (256 * k) 256 (256 * j + i)
    go (inl less) other = inl (omega (arith, less, below))
    go (inr le) (inl more) = inr (omega (arith, more))
    go (inr le) (inr ge) = let same : j ≡ k = omega (arith, le, ge) in absurd (ne same)

-- a tape where none but one record's bytes differ
pub torn_record : (n k : ℕ) (old new : List ℕ) → k < n → ((i : ℕ) → IsOutside (256 * k) 256 i → byte_at new i ≡ byte_at old i) → Torn k (cut n old) (cut n new)
torn_record n k old new lt same = record {
  records = length_cut n new ∙ sym (length_cut n old);
  bytes = record_size n k new lt ∙ sym (record_size n k old lt);
  elsewhere = λ j ne. record_same n j old new (λ i below. same (256 * j + i) (apart k j i ne below));
}

-- a record is written where its bytes are
pub written_record : (n k : ℕ) (bytes old new : List ℕ) → k < n → length bytes ≡ 256 → Overlaid (256 * k) bytes old new → cut n new ≡ set (cut n old) k bytes
written_record n k bytes old new lt size laid =
    ext_get_or [] (cut n new) (set (cut n old) k bytes) (length_cut n new ∙ sym (length-set (cut n old) k bytes ∙ length_cut n old)) (λ j below. go j (cases_eq j k))
  where
    outside : (i : ℕ) → IsOutside (256 * k) 256 i → IsOutside (256 * k) (length bytes) i
    outside i out = subst (λ (m : ℕ). IsOutside (256 * k) m i) (sym size) out

    go : (j : ℕ) → (j ≡ k) ⊎ (j ≡ k → ⊥) → record_at (cut n new) j ≡ record_at (set (cut n old) k bytes) j
    go j (inl is) =
        ap (λ (m : ℕ). record_at (cut n new) m) is
        ∙ sym (record_is n k new bytes lt size (λ i in_it. sym (laid.here i (omega (arith, in_it, size)))))
        ∙ sym (get_or-set_same (cut n old) k bytes [] (omega (arith, lt, length_cut n old)))
        ∙ ap (λ (m : ℕ). record_at (set (cut n old) k bytes) m) (sym is)
    go j (inr ne) =
        record_same n j old new (λ i in_it. laid.elsewhere (256 * j + i) (outside (256 * j + i) (apart k j i ne in_it)))
        ∙ sym (get_or-set_other (cut n old) k j bytes [] ne)

-- ---- a buffer that is filled in pieces

pub below_mid : (a k i : ℕ) (buffer part : List ℕ) → a ≤ length buffer → i < a → byte_at (put_mid a k buffer part) i ≡ byte_at buffer i
below_mid a k i buffer part fits below =
    get_or_append_left (take a buffer) (part ++ post_of a k buffer) 0 i (omega (arith, below, length-take-le a buffer fits)) ∙ get_or-take a buffer i 0 below

pub in_mid : (a k i : ℕ) (buffer part : List ℕ) → a ≤ length buffer → i < length part → byte_at (put_mid a k buffer part) (a + i) ≡ byte_at part i
in_mid a k i buffer part fits within =
    let first : i ≡ a + i - a = omega arith in
    get_or-append_right (take a buffer) (part ++ post_of a k buffer) a (a + i) 0 (length-take-le a buffer fits) (omega arith)
    ∙ ap (λ (m : ℕ). byte_at (part ++ post_of a k buffer) m) (sym first) ∙ get_or_append_left part (post_of a k buffer) 0 i within

pub above_mid : (a k i : ℕ) (buffer part : List ℕ) → a ≤ length buffer → length part ≡ k → a + k ≤ i → byte_at (put_mid a k buffer part) i ≡ byte_at buffer i
above_mid a k i buffer part fits size behind =
    let place : a + (k + (i - a - k)) ≡ i = omega (arith, behind) in
    get_or-append_right (take a buffer) (part ++ post_of a k buffer) a i 0 (length-take-le a buffer fits) (omega (arith, behind))
    ∙ get_or-append_right part (post_of a k buffer) k (i - a) 0 size (omega (arith, behind))
    ∙ get_or-drop k (drop a buffer) (i - a - k) 0 ∙ get_or-drop a buffer (k + (i - a - k)) 0 ∙ ap (λ (m : ℕ). byte_at buffer m) place

-- a piece is put over what is there
pub put_over : (a k : ℕ) (buffer part : List ℕ) → a + k ≤ length buffer → length part ≡ k → Overlaid a part buffer (put_mid a k buffer part)
put_over a k buffer part fits size = record {
  here = λ i lt. in_mid a k i buffer part (omega (arith, fits)) lt;
  elsewhere = λ i out. go i out;
  size = record { no_shorter = omega (arith, all); no_longer = omega (arith, all) };
}
  where
    all : length (put_mid a k buffer part) ≡ length buffer
    all =
        length-append (take a buffer) (part ++ post_of a k buffer) ∙ ap (λ (m : ℕ). length (take a buffer) + m) (length-append part (post_of a k buffer))
        ∙ omega (arith, fits, size, length-take-le a buffer (omega (arith, fits)), length-drop k (drop a buffer), length-drop a buffer)

    go : (i : ℕ) → IsOutside a (length part) i → byte_at (put_mid a k buffer part) i ≡ byte_at buffer i
    go i (inl before) = below_mid a k i buffer part (omega (arith, fits)) before
    go i (inr behind) = above_mid a k i buffer part (omega (arith, fits)) size (omega (arith, behind, size))

-- ---- bytes that are laid in in pieces

-- what is still to be laid in
pub rest_of : (a : ℕ) (bytes : List ℕ) → length bytes ≡ 256 → mid_of a (256 - a) bytes ≡ drop a bytes
rest_of a bytes size = take_all (256 - a) (drop a bytes) (omega (arith, size, length-drop a bytes))

-- one piece more after what was laid in
pub laid_more : (from a count : ℕ) (bytes rest old mid new : List ℕ) → rest ≡ drop a bytes → a + count ≤ length bytes
    → Overlaid from (take a bytes) old mid → Overlaid (from + a) (take count rest) mid new → Overlaid from (take (a + count) bytes) old new
laid_more from a count bytes rest old mid new is fits first next = record {
  here = here;
  elsewhere = elsewhere;
  size = record {
    no_shorter = omega (arith, first.size.no_shorter, next.size.no_shorter);
    no_longer = omega (arith, first.size.no_longer, next.size.no_longer, so_far, more, all);
  };
}
  where
    so_far : length (take a bytes) ≡ a
    so_far = length-take-le a bytes (omega (arith, fits))

    more : length (take count rest) ≡ count
    more = length-take-le count rest (omega (arith, fits, length-drop a bytes, ap (λ (l : List ℕ). length l) is))

    all : length (take (a + count) bytes) ≡ a + count
    all = length-take-le (a + count) bytes fits

    here : (i : ℕ) → i < length (take (a + count) bytes) → byte_at new (from + i) ≡ byte_at (take (a + count) bytes) i
    here i lt = go (cases_lt i a)
      where
        below : i < a + count
        below = omega (arith, lt, all)

        go : (i < a) ⊎ (a ≤ i) → byte_at new (from + i) ≡ byte_at (take (a + count) bytes) i
        go (inl before) =
            next.elsewhere (from + i) (inl (omega (arith, before))) ∙ first.here i (omega (arith, before, so_far))
            ∙ get_or-take a bytes i 0 before ∙ sym (get_or-take (a + count) bytes i 0 below)
        go (inr behind) =
            let j : ℕ = i - a in
            let place : from + i ≡ from + a + j = omega (arith, behind) in
            let back : a + j ≡ i = omega (arith, behind) in
            ap (λ (m : ℕ). byte_at new m) place ∙ next.here j (omega (arith, behind, below, more)) ∙ get_or-take count rest j 0 (omega (arith, behind, below))
            ∙ ap (λ (l : List ℕ). byte_at l j) is ∙ get_or-drop a bytes j 0 ∙ ap (λ (m : ℕ). byte_at bytes m) back ∙ sym (get_or-take (a + count) bytes i 0 below)

    elsewhere : (i : ℕ) → IsOutside from (length (take (a + count) bytes)) i → byte_at new i ≡ byte_at old i
    elsewhere i (inl before) = next.elsewhere i (inl (omega (arith, before))) ∙ first.elsewhere i (inl before)
    elsewhere i (inr behind) = next.elsewhere i (inr (omega (arith, behind, all, more))) ∙ first.elsewhere i (inr (omega (arith, behind, all, so_far)))

-- what was laid in is within the places of all bytes
pub laid_is_mixed : (from a : ℕ) (bytes old new : List ℕ) → a ≤ length bytes → Overlaid from (take a bytes) old new → Mixed from (length bytes) old new
laid_is_mixed from a bytes old new fits laid = record {
  elsewhere = λ i out. laid.elsewhere i (wider i out);
  size = record { no_shorter = laid.size.no_shorter; no_longer = omega (arith, laid.size.no_longer, size, fits) };
}
  where
    size : length (take a bytes) ≡ a
    size = length-take-le a bytes fits

    wider : (i : ℕ) → IsOutside from (length bytes) i → IsOutside from (length (take a bytes)) i
    wider i (inl before) = inl before
    wider i (inr after) = inr (omega (arith, after, size, fits))

-- any bytes at the places that are left
pub mixed_more : (from a : ℕ) (bytes rest old mid new : List ℕ) → a ≤ length bytes → rest ≡ drop a bytes
    → Overlaid from (take a bytes) old mid → Mixed (from + a) (length rest) mid new → Mixed from (length bytes) old new
mixed_more from a bytes rest old mid new fits is laid next = record {
  elsewhere = λ i out. next.elsewhere i (within i out) ∙ first.elsewhere i out;
  size = record {
    no_shorter = omega (arith, first.size.no_shorter, next.size.no_shorter);
    no_longer = omega (arith, first.size.no_longer, next.size.no_longer, left, fits);
  };
}
  where
    first : Mixed from (length bytes) old mid
    first = laid_is_mixed from a bytes old mid fits laid

    left : length rest ≡ length bytes - a
    left = ap (λ (l : List ℕ). length l) is ∙ length-drop a bytes

    within : (i : ℕ) → IsOutside from (length bytes) i → IsOutside (from + a) (length rest) i
    within i (inl before) = inl (omega (arith, before))
    within i (inr after) = inr (omega (arith, after, left, fits))
