-- What an insert finds.
use Rattle.std.proofs.Common.{◌≡◌, ◌⊎◌, ◌∷◌, inl, inr, ◌≤◌, ◌<◌, ◌*◌, ◌+◌, ℕ, List, [], Bool, true, false, length, replicate, refl, sym, ap, ◌∙◌, arith}
use Rattle.std.specs.Prelude.{Option, Some, None, Ok, is_some, if◌then◌else◌, unwrap_or}
use Rattle.std.proofs.lemmas.List.{ext_get_or, get_or-replicate, length-replicate, get_or_past}
use Rattle.std.proofs.lemmas.Bool.{le-leb, cases_lt}
use Rattle.lif_model.specs.Tape.{Tape}
use Rattle.lif_model.specs.Shelf.{Shelf, image_of, bytes_of, inserted, cut, tape_of, blank, records_for, image_bytes, largest_image}
use Rattle.lif_model.proofs.Made.{length_cut}
use Rattle.il_ports.specs.Inserting.{records_made, TakesImage}
use Rattle.il_ports.specs.Media.{DidInsert}
use Rattle.il_ports.specs.declared.medium.Inserted.TheVariants as inserting
use Rattle.il_ports.specs.declared.medium.New.{New}
use Rattle.il_ports.specs.Files.{FileView, Rests, Claimed, Measured, SetApart, IsSettledFile, byte_at}
use Rattle.il_ports.specs.NamedImages.{Bears}
use Rattle.il_ports.specs.FileDrives.{drive_view, IsContent, IsFoundFile, IsNewTape}
use Rattle.il_ports.specs.FindingFiles.{IsTaken, WasMade}
use Rattle.il_ports.specs.FileTapes.{TapeState, tape_of_file, shelf_in, tape_view, LeavesTape}
use Rattle.il_ports.specs.FileLaws.{here_first}
use Rattle.il_ports.specs.declared.file_medium.Found.TheVariants as found
use Rattle.il_ports.specs.Sizes.{records_of_size, is_size_of}
use Rattle.il_ports.specs.declared.image.Size.{Size}
use Rattle.il_ports.specs.declared.image.Size.TheVariants as sizes
use Rattle.il_ports.specs.declared.tape_file.Access.{Access}
use Rattle.il_ports.specs.declared.tape_file.Access.TheVariants as access
use Rattle.il_ports.proofs.FileBytes.{record_is, zeros_at}
use Rattle.il_ports.proofs.FileCalls.{still_settled, rests_on}
use Rattle.il_ports.proofs.FileTapes.{beside_first}

-- ---- a file that was opened

module _ (v claimed apart measured : FileView) where
  -- nothing but its lock has changed
  untouched : Rests v claimed → Rests claimed apart → Rests apart measured → Rests v measured
  untouched a b c = rests_on v claimed measured a (rests_on claimed apart measured b c)

  long : {E : Type 0} (count : ℕ) → Rests v claimed → Rests claimed apart → Measured {E = E} apart measured (Ok count) → (s : List ℕ) → v.seen ≡ Some s → length s ≡ count
  long count a b c s is = c.answer_is s (b.seen ∙ a.seen ∙ is)

  -- the disk has what it reads as
  pub taken_settled : {U D E : Type 0} (access : Access) (count : ℕ) (x : U) → Claimed access v claimed true → SetApart {T = U} {E = D} claimed apart (Ok x) → Measured {E = E} apart measured (Ok count)
      → IsSettledFile v → IsTaken access v measured count
  taken_settled access count x a b c settled =
      let rests = untouched a.rests b.rests c.rests in (
        record {
          settled = still_settled v measured rests settled;
          held = c.answers.held access (b.answers.held access (a.held refl));
          apart = c.answers.itself.apart b.apart;
          named = c.answers.named ∙ b.answers.named ∙ a.named;
          made = λ was. c.answers.itself.made (b.answers.itself.made (a.itself.made was));
          told = ap (λ (o : Option (List ℕ)). is_some o) (rests.kept ∙ sym settled.clean.synced);
        },
        rests.kept ∙ sym settled.clean.synced,
        long count a.rests b.rests c,
      )

-- ---- a file that was made

-- the zeros of a whole medium read as a blank one
blank_of : (n : ℕ) (b : List ℕ) → length b ≡ image_bytes n → ((i : ℕ) → i < image_bytes n → byte_at b i ≡ 0) → cut n b ≡ blank n
unfolding blank
blank_of n b size zeros =
    ext_get_or [] (cut n b) (replicate n (replicate 256 0)) (length_cut n b ∙ sym (length-replicate n (replicate 256 0)))
    (λ k below.
    let lt : k < n = omega (arith, below, length_cut n b) in
    sym (record_is n k b (replicate 256 0) lt (length-replicate {A = ℕ} 256 0) (λ i in_it. zeros_at 256 i ∙ sym (zero (256 * k + i))))
    ∙ sym (get_or-replicate n k (replicate 256 0) [] lt))
  where
    zero : (i : ℕ) → byte_at b i ≡ 0
    zero i = go (cases_lt i (image_bytes n))
      where
        go : (i < image_bytes n) ⊎ (image_bytes n ≤ i) → byte_at b i ≡ 0
        go (inl lt) = zeros i lt
        go (inr le) = get_or_past b i 0 (omega (arith, le, size))

-- what a made image reads as
pub made_is : (name : List ℕ) (s : Shelf) (new : New) (size : Size) (b : List ℕ) → image_of name s ≡ None → Some (records_of_size size) ≡ records_made new
    → length b ≡ image_bytes (records_of_size size) → ((i : ℕ) → i < image_bytes (records_of_size size) → byte_at b i ≡ 0)
    → inserted (image_of name s) (records_made new) ≡ Some (cut (records_of_size size) b)
made_is name s new size b none made long zeros =
    ap (λ (o : Option (List ℕ)). inserted o (records_made new)) none ∙ ap (inserted None) (sym made) ∙ ap Some (sym (blank_of (records_of_size size) b long zeros))

-- what an image that was there reads as
pub there_is : (name : List ℕ) (s : Shelf) (made : Option ℕ) (n : ℕ) (b : List ℕ) (size : ℕ) → image_of name s ≡ Some b → length b ≡ size → n ≡ records_for size
    → size ≤ largest_image → inserted (image_of name s) made ≡ Some (cut n b)
unfolding tape_of
there_is name s made n b size is long so_many fits =
    ap (λ (o : Option (List ℕ)). inserted o made) is
    ∙ ap (λ (t : Bool). if t then Some (tape_of b) else None) (le-leb (length b) largest_image (omega (arith, long, fits)))
    ∙ ap (λ (m : ℕ). Some (cut m b)) (ap records_for long ∙ sym so_many)

-- ---- a file that is inserted

module _ {F : Type 0} (view : F → FileView) (name : List ℕ) (new : New) (images : Option Shelf) where
  -- one that was there
  pub found_there : (size : Size) (f g : F) (access : Access) (count : ℕ) → Bears name images (image_of name) (view f) → IsTaken access (view f) (view g) count
      → records_of_size size ≡ records_for count → count ≤ largest_image → IsFoundFile view name new images (found.Tape g size access)
  found_there size f g access count bears claims so_many fits = (
    record {
      settled = claims.0.settled;
      held = claims.0.held;
      apart = claims.0.apart;
      named = λ s is. claims.0.named ∙ bears.named s is;
      told = claims.0.told ∙ bears.told;
    },
    λ s is. there s is (image_of name s) refl,
  )
    where
      there : (s : Shelf) → images ≡ Some s → (o : Option (List ℕ)) → image_of name s ≡ o
          → (b : List ℕ) × ((view g).kept ≡ Some b) × (inserted (image_of name s) (records_made new) ≡ Some (cut (records_of_size size) b)) × IsContent name s (records_of_size size) b
      there s is None none = absurd (unseen (view f).seen (bears.told ∙ ap (λ (o : Option Shelf). is_some o) is) (bears.seen s is ∙ none))
        where
          unseen : (o : Option (List ℕ)) → is_some o ≡ true → o ≡ None → ⊥
          unseen None told none = cc
          unseen (Some b) told none = cc
      there s is (Some b) some =
          let seen : (view f).seen ≡ Some b = bears.seen s is ∙ some in (
            b,
            claims.1 ∙ seen,
            there_is name s (records_made new) (records_of_size size) b count some (claims.2 b seen) so_many fits,
            record {
              there = λ c is. ap (λ (o : Option (List ℕ)). unwrap_or o b) (sym some ∙ is);
              made = λ none. let both : Some b ≡ None = sym some ∙ none in cc;
            },
          )

  -- one that is too large
  pub too_large : (f g : F) (access : Access) (count : ℕ) → Bears name images (image_of name) (view f) → IsTaken access (view f) (view g) count
      → largest_image < count → IsFoundFile view name new images (found.BadSize count)
  too_large f g access count bears claims large = (large, λ s is. there s is (image_of name s) refl)
    where
      there : (s : Shelf) → images ≡ Some s → (o : Option (List ℕ)) → image_of name s ≡ o → (b : List ℕ) × (image_of name s ≡ Some b) × (length b ≡ count)
      there s is None none = absurd (unseen (view f).seen (bears.told ∙ ap (λ (o : Option Shelf). is_some o) is) (bears.seen s is ∙ none))
        where
          unseen : (o : Option (List ℕ)) → is_some o ≡ true → o ≡ None → ⊥
          unseen None told none = cc
          unseen (Some b) told none = cc
      there s is (Some b) some = (b, some, claims.2 b (bears.seen s is ∙ some))

  -- one that was made
  pub found_made : (size : Size) (f : F) → WasMade name images (image_bytes (records_of_size size)) (view f) → Some (records_of_size size) ≡ records_made new
      → IsFoundFile view name new images (found.Tape f size access.Change)
  found_made size f was made = (
    was.fit,
    λ s is.
        let b = was.zeros s is in
        (b.0, b.1, made_is name s new size b.0 (was.missing s is) made b.2 b.3, record { there = λ c some. let both : None ≡ Some c = sym (was.missing s is) ∙ some in cc; made = λ none. b.2 }),
  )

module _ {F : Type 0} (view : F → FileView) (name : List ℕ) (new : New) (images : Option Shelf) (faults : ℕ) (file : F) (size : Size) (access : Access) where
  abbrev n : ℕ
  n = records_of_size size

  shelf_told : (shelf : Option Shelf) (named kept : Option (List ℕ)) → ((s : Shelf) → shelf ≡ Some s → named ≡ Some name) → is_some kept ≡ is_some shelf
      → is_some (shelf_in shelf named (tape_of_file n kept)) ≡ is_some shelf
  shelf_told None named kept named_is told = refl
  shelf_told (Some s) None kept named_is told = let is : None ≡ Some name = named_is s refl in cc
  shelf_told (Some s) (Some x) None named_is told = cc
  shelf_told (Some s) (Some x) (Some b) named_is told = refl

  takes : IsFoundFile view name new images (found.Tape file size access) → (s : Shelf) → images ≡ Some s
      → TakesImage name new s (shelf_in images (view file).named (tape_of_file n (view file).kept)) (view file).named (tape_of_file n (view file).kept)
  takes is s told =
      let b = is.1 s told in
      record {
        content = cut n b.0;
        inserted_is = b.2;
        tape_is = ap (tape_of_file n) b.1;
        shelf = (name, bytes_of (cut n b.0)) ∷ s;
        shelf_is =
            ap (λ (x : Option Shelf). shelf_in x (view file).named (tape_of_file n (view file).kept)) told
            ∙ ap (λ (x : Option (List ℕ)). shelf_in (Some s) x (tape_of_file n (view file).kept)) (is.0.named s told) ∙ ap (λ (x : Option (List ℕ)). shelf_in (Some s) (Some name) (tape_of_file n x)) b.1;
        inside_is = is.0.named s told;
        image = here_first name (bytes_of (cut n b.0)) s;
        others = λ other ne. beside_first name other (bytes_of (cut n b.0)) s ne;
      }

  leaves : (shelf : Option Shelf) → images ≡ shelf → IsFoundFile view name new images (found.Tape file size access) → (m : ℕ) (c : Tape) → LeavesTape n (view file).left_since m c
      → (images ≡ None) ⊎ (tape_of_file n (view file).kept ≡ Some c)
  leaves None told is m c left = inl told
  leaves (Some s) told is m c left =
      let b = is.1 s told in
      inr (ap (tape_of_file n) b.1 ∙ ap (λ (x : List ℕ). Some (cut n x)) (sym (is.0.settled.since b.0 b.1 m left.0 left.1)) ∙ ap Some (sym left.2))

  -- the tape that is inserted
  pub did_insert : (tape : Option (TapeState F)) → (drive_view view images tape faults).record_count ≡ 0 → IsFoundFile view name new images (found.Tape file size access)
      → DidInsert name new (drive_view view images tape faults) (tape_view view images (record { file = file; size = size; access = access; is_broken = false; faults = faults })) (Ok inserting.Tape)
  did_insert (Some tape) none is = no_size tape.size none
    where
      no_size : {P : Type 0} (of : Size) → records_of_size of ≡ 0 → P
      no_size sizes.Tape none = absurd (omega (arith, none))
      no_size sizes.Disc none = absurd (omega (arith, none))
  did_insert None none is = record {
    goes_on = record { told = shelf_told images (view file).named (view file).kept is.0.named is.0.told; later = omega arith; cause = refl };
    answer_is = (is_size_of size, takes is);
    since = leaves images refl is;
  }

  -- and its file's bytes
  pub is_new : (faults : ℕ) → IsFoundFile view name new images (found.Tape file size access)
      → IsNewTape view name images (Some (record { file = file; size = size; access = access; is_broken = false; faults = faults }))
  is_new faults is = (refl, λ s told. let b = is.1 s told in (b.0, b.1, b.3))
