-- The units of a log, one piece after another.
use Rattle.std.proofs.Common.{◌≡◌, ◌∙◌, ◌++◌, ◌&&◌, ◌||◌, ◌==◌, ℕ, Bool, true, false, List, [], ◌∷◌, length, nat_lt, Option, Some, None, refl, sym, ap, eqb-true, append_assoc, append-nil}
use Rattle.std.specs.Prelude.{if◌then◌else◌, option_map, option_and_then, option_to_list}
use Rattle.std.proofs.lemmas.Bool.{and_parts}
use Rattle.loop_model.specs.Loops.{Loop}
use Rattle.loop_model.specs.Exchanges.{Exchange, Command, Address, Send, Receive, Identify, entries_of, cut_at, Piece, Whole, Cut}
use Rattle.loop_model.specs.Units.{RecordUnit, sent_bytes, is_send, is_transfer, sought, told_status, unit_of, unit_after_seek, units_of}

-- what the last piece was: neither of these; a seek of a record; or after one a write or else a read of bytes
pub data State : Type 0 where
  Idle : State
  Found : ℕ → State
  Moved : ℕ → Bool → List ℕ → State

abbrev pub found : Option ℕ → State → State
found None other = other
found (Some n) other = Found n

abbrev pub moved_if : Bool → ℕ → Bool → List ℕ → State
moved_if true n writes bytes = Moved n writes bytes
moved_if false n writes bytes = Idle

abbrev pub told_unit : ℕ → Bool → List ℕ → Option ℕ → RecordUnit
told_unit n writes bytes status = record { writes = writes; first = n; bytes = bytes; status = status }

module _ (l : Loop) where
  abbrev pub moved : State → Piece → State
  moved Idle p = Idle
  moved (Found n) (Whole x) =
      moved_if (is_transfer l.drive x (sent_bytes (entries_of l.controller x))) n (is_send l.drive 2 x) (sent_bytes
      (entries_of l.controller x))
  moved (Found n) (Cut x m b) = Idle
  moved (Moved n writes bytes) p = Idle

  abbrev pub next : State → Piece → State
  next s p = found (sought l p) (moved s p)

  -- the unit that ends by this piece
  abbrev pub unit_by : State → Piece → Option RecordUnit
  unit_by Idle p = None
  unit_by (Found n) (Whole x) = None
  unit_by (Found n) (Cut x m b) =
      unit_of l.drive n x (sent_bytes (cut_at (entries_of l.controller x) m b)) None
  unit_by (Moved n writes bytes) p = option_map (told_unit n writes bytes) (told_status l p)

  abbrev pub state_after : State → List Piece → State
  state_after s [] = s
  state_after s (p ∷ ps) = state_after (next s p) ps

  abbrev pub units_by : State → List Piece → List RecordUnit
  units_by s [] = []
  units_by s (p ∷ ps) = option_to_list (unit_by s p) ++ units_by (next s p) ps

  -- ---- these are the units of the pieces

  number_apart : (a j : ℕ) (b c : Bool) → ((a == l.drive) && (j == 4)) ≡ true →
      ((((a == l.drive) && (j == 2)) && b) || false) ≡ false
  number_apart a j b c is =
      let both = and_parts (a == l.drive) (j == 4) is in
      let four : j ≡ 4 = eqb-true j 4 both.1 in
      rw (both.0, four) refl

  -- a seek moves no bytes of a unit
  seek_apart : (x : Exchange) (bytes : List ℕ) → is_send l.drive 4 x ≡ true → is_transfer l.drive x bytes ≡ false
  seek_apart (Command f) bytes is = cc
  seek_apart (Address k) bytes is = cc
  seek_apart (Send a None ds) bytes is = cc
  seek_apart (Send a (Some j) ds) bytes is = number_apart a j (nat_lt 0 (length bytes)) false is
  seek_apart (Receive a number s answer) bytes is = cc
  seek_apart (Identify f) bytes is = cc

  unit_if : (b : Bool) (o : Option (Option ℕ)) (n : ℕ) (x : Exchange) (bytes : List ℕ) →
      is_transfer l.drive x bytes ≡ b →
      option_and_then (unit_of l.drive n x bytes) o
      ≡ (if b then option_map (told_unit n (is_send l.drive 2 x) bytes) o else None)
  unit_if true None n x bytes is = refl
  unit_if true (Some status) n x bytes is = rw is refl
  unit_if false None n x bytes is = refl
  unit_if false (Some status) n x bytes is = rw is refl

  abbrev ByPiece : List Piece → Type 0
  ByPiece ps = units_by Idle ps ≡ units_of l ps

  abbrev AfterFound : List Piece → Type 0
  AfterFound ps = (n : ℕ) → units_by (Found n) ps ≡ option_to_list (unit_after_seek l ps n) ++ units_of l ps

  from_here : (o : Option ℕ) (ps : List Piece) → ByPiece ps → AfterFound ps →
      units_by (found o Idle) ps ≡ option_to_list (option_and_then (unit_after_seek l ps) o) ++ units_of l ps
  from_here None ps all more = all
  from_here (Some n) ps all more = more n

  unit_seen : (b : Bool) (n : ℕ) (writes : Bool) (bytes : List ℕ) (q : Piece) (qs : List Piece) (x : Exchange) →
      is_transfer l.drive x bytes ≡ b → is_send l.drive 2 x ≡ writes → sent_bytes (entries_of l.controller x) ≡ bytes →
      unit_after_seek l (Whole x ∷ q ∷ qs) n ≡ (if b then option_map (told_unit n writes bytes)
      (told_status l q) else None)
  unit_seen b n writes bytes q qs x is kind sent = rw (sent, ← kind) (unit_if b (told_status l q) n x bytes is)

  none_after : (n : ℕ) (ps : List Piece) (x : Exchange) →
      is_transfer l.drive x (sent_bytes (entries_of l.controller x)) ≡ false →
      unit_after_seek l (Whole x ∷ ps) n ≡ None
  none_after n [] x is = refl
  none_after n (q ∷ qs) x is = unit_seen false n (is_send l.drive 2 x) _ q qs x is refl refl

  -- what is whole and moved bytes, or not
  after_moved : (b : Bool) (n : ℕ) (writes : Bool) (bytes : List ℕ) (ps : List Piece) (x : Exchange) → ByPiece ps →
      is_transfer l.drive x bytes ≡ b → is_send l.drive 2 x ≡ writes → sent_bytes (entries_of l.controller x) ≡ bytes →
      units_by (moved_if b n writes bytes) ps ≡ option_to_list (unit_after_seek l (Whole x ∷ ps) n) ++ units_of l ps
  after_moved true n writes bytes [] x all is kind sent = refl
  after_moved true n writes bytes (q ∷ qs) x all is kind sent =
      ap (λ (us : List RecordUnit). option_to_list (option_map (told_unit n writes bytes) (told_status l q)) ++ us) all
      ∙ ap (λ (o : Option RecordUnit). option_to_list o ++ units_of l (q ∷ qs))
      (sym (unit_seen true n writes bytes q qs x is kind sent))
  after_moved false n writes bytes [] x all is kind sent = refl
  after_moved false n writes bytes (q ∷ qs) x all is kind sent =
      all ∙ ap (λ (o : Option RecordUnit). option_to_list o ++ units_of l (q ∷ qs))
      (sym (unit_seen false n writes bytes q qs x is kind sent))

  after_seek : (o : Option ℕ) (b : Bool) (n : ℕ) (writes : Bool) (bytes : List ℕ) (ps : List Piece) (x : Exchange) →
      b ≡ false → unit_after_seek l (Whole x ∷ ps) n ≡ None → ByPiece ps → AfterFound ps →
      units_by (found o (moved_if b n writes bytes)) ps
      ≡ option_to_list (unit_after_seek l (Whole x ∷ ps) n)
      ++ (option_to_list (option_and_then (unit_after_seek l ps) o) ++ units_of l ps)
  after_seek o true n writes bytes ps x apart none all more = cc
  after_seek o false n writes bytes ps x apart none all more = rw none (from_here o ps all more)

  after_whole : (b : Bool) (n : ℕ) (x : Exchange) (ps : List Piece) → is_send l.drive 4 x ≡ b → ByPiece ps →
      AfterFound ps → units_by (found (sought l (Whole x)) (moved (Found n) (Whole x))) ps
      ≡ option_to_list (unit_after_seek l (Whole x ∷ ps) n) ++ units_of l (Whole x ∷ ps)
  after_whole true n x ps is all more =
      let apart = seek_apart x (sent_bytes (entries_of l.controller x)) is in
      after_seek (sought l (Whole x)) _ n (is_send l.drive 2 x) (sent_bytes (entries_of l.controller x)) ps x apart
      (none_after n ps x apart) all more
  after_whole false n x ps is all more =
      rw is (after_moved _ n _ _ ps x all refl refl refl)

  both : (ps : List Piece) → ByPiece ps × AfterFound ps
  both [] = (refl, λ n. refl)
  both (Whole x ∷ ps) =
      let rest = both ps in
      (from_here (sought l (Whole x)) ps rest.0 rest.1, λ n. after_whole _ n x ps refl rest.0 rest.1)
  both (Cut x m b ∷ ps) =
      let rest = both ps in
      (rest.0, λ n. ap (λ (us : List RecordUnit). option_to_list (unit_by (Found n) (Cut x m b)) ++ us) rest.0)

  pub units_of-by : (ps : List Piece) → units_by Idle ps ≡ units_of l ps
  units_of-by ps = (both ps).0

  -- one piece more
  pub units_by-snoc : (s : State) (ps : List Piece) (p : Piece) →
      units_by s (ps ++ p ∷ []) ≡ units_by s ps ++ option_to_list (unit_by (state_after s ps) p)
  units_by-snoc s [] p = nil_end (option_to_list (unit_by s p))
    where
      nil_end : (us : List RecordUnit) → us ++ [] ≡ us
      nil_end us = append-nil us
  units_by-snoc s (q ∷ qs) p =
      ap (λ (us : List RecordUnit). option_to_list (unit_by s q) ++ us) (units_by-snoc (next s q) qs p)
      ∙ sym (append_assoc (option_to_list (unit_by s q)) (units_by (next s q) qs) _)
