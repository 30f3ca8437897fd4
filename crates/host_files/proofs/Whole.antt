-- Reads of a file whose bytes contracts see.
use Rattle.std.proofs.Common.{◌≡◌, ◌⊎◌, ◌<◌, ◌≤◌, ◌+◌, ◌-◌, ◌∙◌, ◌++◌, ℕ, List, true, Option, Some, None, length, take, refl, sym, ap, arith, inl, inr, length-append, Ok, Err}
use Rattle.std.specs.Prelude.{Result, is_some, IfOk, Vec}
use Rattle.std.specs.declared.alloc.Global.{Global}
use Rattle.std.specs.declared.io.Error.{Error}
use Rattle.std.proofs.lemmas.Bool.{cases_lt}
use Rattle.std.proofs.lemmas.List.{ext_get_or, get_or_append_left, get_or-append_right, get_or-take, length-take-le}
use Rattle.lif_model.specs.Shelf.{Shelf, image_of}
use Rattle.il_ports.specs.Files.{FileView, Gave, byte_at, AreBytes}
use Rattle.il_ports.specs.NamedImages.{Bears, ImagesView}
use Rattle.host_files.specs.HostFiles.{ReadsFrom, NoRead, OneMore, IsMeasured, IsSettledAt, IsReadToEnd, IsHostContent, IsLarger, FoundRead}
use Rattle.host_files.specs.declared.reading.NotRead.{NotRead}
use Rattle.host_files.specs.declared.reading.NotRead.TheVariants as not_read

-- ---- one read more

-- the bytes so far are the first of the file
front-more : (bytes buffer s : List ℕ) (count : ℕ) → count ≤ length buffer → AreBytes (length bytes) count buffer s
    → ((i : ℕ) → i < length bytes → byte_at bytes i ≡ byte_at s i)
    → (i : ℕ) → i < length (bytes ++ take count buffer) → byte_at (bytes ++ take count buffer) i ≡ byte_at s i
front-more bytes buffer s count few given front i within = go (cases_lt i (length bytes))
  where
    go : (i < length bytes) ⊎ (length bytes ≤ i) → byte_at (bytes ++ take count buffer) i ≡ byte_at s i
    go (inl below) = get_or_append_left bytes (take count buffer) 0 i below ∙ front i below
    go (inr after) =
        let size = length-append bytes (take count buffer) in
        let piece = length-take-le count buffer few in
        let near : i - length bytes < count = omega (arith, size, piece, within, after) in
        let place : length bytes + (i - length bytes) ≡ i = omega (arith, after) in
        get_or-append_right bytes (take count buffer) (length bytes) i 0 refl after
        ∙ get_or-take count buffer (i - length bytes) 0 near
        ∙ given (i - length bytes) near
        ∙ ap (byte_at s) place

-- what is known of a file of which these bytes were read
pub record Given {F : Type 0} (view : F → FileView) (f g : F) (bytes : List ℕ) : Type 0 where
  pub seen : (view g).seen ≡ (view f).seen
  pub front : (s : List ℕ) → (view f).seen ≡ Some s → (i : ℕ) → i < length bytes → byte_at bytes i ≡ byte_at s i

pub given_by : {F : Type 0} (view : F → FileView) (f g : F) (bytes : List ℕ) → ReadsFrom view f g bytes → Given view f g bytes
given_by view f _ _ NoRead = record { seen = refl; front = λ s is i within. absurd (omega (arith, within)) }
given_by view f _ _ (OneMore g h bytes buffer count reads gave) =
    let before = given_by view f g bytes reads in
    record {
      seen = gave.rests.seen ∙ before.seen;
      front = λ s is. front-more bytes buffer s count gave.answer_is.0 (gave.answer_is.1 s (before.seen ∙ is)).0 (before.front s is);
    }

-- ---- a file that was read whole

measured-seen : {F : Type 0} (view : F → FileView) (f g : F) (count : ℕ) → IsMeasured view f g count → (view g).seen ≡ (view f).seen
measured-seen view f g count is = is.measured.rests.seen ∙ is.granted.rests.seen

measured-size : {F : Type 0} (view : F → FileView) (f g : F) (count : ℕ) → IsMeasured view f g count → (s : List ℕ) → (view f).seen ≡ Some s → length s ≡ count
measured-size view f g count is s seen = is.measured.answer_is s (is.granted.rests.seen ∙ seen)

settled-seen : {F : Type 0} (view : F → FileView) (f g : F) (count : ℕ) → IsSettledAt view f g count → (view g).seen ≡ (view f).seen
settled-seen view f g count is = is.settled.answer_is.1 ∙ measured-seen view f is.measured count is.size

pub whole_is : {F : Type 0} (view : F → FileView) (f g : F) (bytes s : List ℕ) → IsReadToEnd view f g bytes → (view f).seen ≡ Some s → bytes ≡ s
whole_is view f g bytes s is seen =
    let reads = given_by view is.settled g bytes is.reads in
    ext_get_or 0 bytes s (sym (measured-size view f is.size.measured (length bytes) is.size.size s seen))
    (reads.front s (settled-seen view f is.settled (length bytes) is.size ∙ seen))

-- A read before the end gives a byte, if contracts see the file. So a file ends too early only if they do not see it.
pub ends_only_unseen : {F : Type 0} (view : F → FileView) (f h k g : F) (count : ℕ) (bytes buffer s : List ℕ) → IsSettledAt view f h count → ReadsFrom view h k bytes → length bytes < count
    → Gave {E = Error} (length bytes) buffer (view k) (view g) (Ok 0) → (view f).seen ≡ Some s → ⊥
ends_only_unseen view f h k g count bytes buffer s ready reads less gave seen =
    let given = given_by view h k bytes reads in
    let at_end = (gave.answer_is.1 s (given.seen ∙ settled-seen view f h count ready ∙ seen)).1 refl in
    let size = measured-size view f ready.measured count ready.size s seen in
    omega (arith, at_end, size, less)

-- ---- the file of that name

seen-some : (o : Option (List ℕ)) → is_some o ≡ true → (s : List ℕ) × (o ≡ Some s)
seen-some None is = cc
seen-some (Some s) is = (s, refl)

-- what contracts see of a file if they see the images
seen-of : (name : List ℕ) (shelf : Option Shelf) (v : FileView) → Bears name shelf (image_of name) v → (images : Shelf) → shelf ≡ Some images
    → (s : List ℕ) × (v.seen ≡ Some s) × (image_of name images ≡ Some s)
seen-of name shelf v bears images is =
    let known = seen-some v.seen (bears.told ∙ ap is_some is) in
    (known.0, known.1, sym (bears.seen images is) ∙ known.1)

pub content_of : {F : Type 0} (view : F → FileView) (name : List ℕ) (shelf : Option Shelf) (f g : F) (bytes : List ℕ)
    → Bears name shelf (image_of name) (view f) → IsReadToEnd view f g bytes → IsHostContent name shelf bytes
content_of view name shelf f g bytes bears whole images is =
    let known = seen-of name shelf (view f) bears images is in
    known.2 ∙ ap Some (sym (whole_is view f g bytes known.0 whole known.1))

pub larger_than : {F : Type 0} (view : F → FileView) (name : List ℕ) (most count : ℕ) (shelf : Option Shelf) (f g : F)
    → Bears name shelf (image_of name) (view f) → IsMeasured view f g count → most < count → IsLarger name most shelf
larger_than view name most count shelf f g bears measured more images is =
    let known = seen-of name shelf (view f) bears images is in
    let size = measured-size view f g count measured known.0 known.1 in
    (known.0, known.2, omega (arith, size, more))

-- what was read of the file that a look has found
pub content_found : {F I : Type 0} (view : F → FileView) (seen : I → ImagesView) (name : List ℕ) (most : ℕ) (looked new : I) (answer : Result (Vec ℕ Global) NotRead)
    → FoundRead view seen name most looked new answer → IfOk answer (λ bytes. IsHostContent name (seen new).shelf bytes.items)
content_found view seen name most looked new (Ok bytes) is = content_of view name (seen new).shelf is.file is.after bytes.items is.opened.answer_is.opened.bears is.read.0
content_found view seen name most looked new (Err why) is = tt

pub larger_found : {F I : Type 0} (view : F → FileView) (seen : I → ImagesView) (name : List ℕ) (most : ℕ) (looked new : I)
    → FoundRead view seen name most looked new (Err not_read.TooLarge) → IsLarger name most (seen new).shelf
larger_found view seen name most looked new is =
    larger_than view name most is.read.0 (seen new).shelf is.file is.after is.opened.answer_is.opened.bears is.read.1 is.read.2
