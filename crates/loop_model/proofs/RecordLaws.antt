-- The units of a seek, a transfer and a poll of the status, whole and cut.
use Rattle.std.proofs.Common.{◌≡◌, ◌<◌, ◌∙◌, ◌+◌, ◌*◌, ◌++◌, ◌==◌, ℕ, Bool, true, false, List, [], ◌∷◌, Option, Some, None, length, option_map, option_and_then, option_to_list, refl, ap, eq-eqb}
use Rattle.std.specs.List.{list_all}
use Rattle.std.proofs.lemmas.Bool.{and_from, lt-ltb}
use Rattle.il_frames.specs.Frames.{byte_of}
use Rattle.loop_model.specs.Loops.{Loop}
use Rattle.loop_model.specs.Exchanges.{Echo, Exchange, Send, Receive, Sda, Sst, Answer, Break, Piece, Whole, Cut, entries_of, cut_at, is_echo, bytes_of}
use Rattle.loop_model.specs.Units.{RecordUnit, sent_bytes, number_of, only_byte, sought, told_status, unit_of, unit_after_seek, units_of}
use Rattle.loop_model.proofs.UnitLaws.{sent_bytes-send}

module _ (l : Loop) where
  -- the exchanges of a unit: seek a record by two bytes, write, read, ask for the status
  abbrev pub seek : Echo → Echo → Exchange
  seek high low = Send l.drive (Some 4) (high ∷ low ∷ [])

  abbrev pub write : List Echo → Exchange
  write ds = Send l.drive (Some 2) ds

  abbrev pub read : Answer → Exchange
  read answer = Receive l.drive (Some 2) Sda answer

  abbrev pub poll : Answer → Exchange
  poll answer = Receive l.drive None Sst answer

  same_drive : (l.drive == l.drive) ≡ true
  same_drive = eq-eqb l.drive l.drive refl

  two_echoes : (high low : Echo) → is_echo high ≡ true → is_echo low ≡ true → list_all is_echo (high ∷ low ∷ []) ≡ true
  two_echoes high low h k = and_from (is_echo high) _ h (and_from (is_echo low) true k refl)

  -- the record that a seek names
  pub sought-seek : (high low : Echo) → is_echo high ≡ true → is_echo low ≡ true →
      sought l (Whole (seek high low)) ≡ Some (256 * byte_of high.sent + byte_of low.sent)
  sought-seek high low h k =
      let bytes = sent_bytes-send l.controller l.drive (Some 4) (high ∷ low ∷ []) (two_echoes high low h k) in
      rw (same_drive) (ap number_of bytes)

  pub sought-write : (ds : List Echo) → sought l (Whole (write ds)) ≡ None
  sought-write ds = rw (same_drive) refl

  -- the unit on record k with these bytes
  abbrev pub one_unit : Bool → ℕ → List ℕ → Option ℕ → RecordUnit
  one_unit writes k bytes status = record { writes = writes; first = k; bytes = bytes; status = status }

  unit_of-write : (k : ℕ) (ds : List Echo) (bytes : List ℕ) (status : Option ℕ) → 0 < length bytes →
      unit_of l.drive k (write ds) bytes status ≡ Some (one_unit true k bytes status)
  unit_of-write k ds bytes status some = let more = lt-ltb 0 (length bytes) some in rw (same_drive, more) refl

  unit_of-read : (k : ℕ) (answer : Answer) (bytes : List ℕ) (status : Option ℕ) →
      unit_of l.drive k (read answer) bytes status ≡ Some (one_unit false k bytes status)
  unit_of-read k answer bytes status = rw (same_drive) refl

  -- ---- units of three exchanges

  told_status-poll : (answer : Answer) (status : ℕ) → sent_bytes (entries_of l.controller (poll answer)) ≡ status ∷ [] →
      told_status l (Whole (poll answer)) ≡ Some (Some status)
  told_status-poll answer status told = rw (same_drive) (ap (λ (bytes : List ℕ). option_map Some (only_byte bytes)) told)

  told_status-cut : (answer : Answer) (n : ℕ) (b : Break) → told_status l (Cut (poll answer) n b) ≡ Some None
  told_status-cut answer n b = rw (same_drive) refl

  list_of : (o : Option RecordUnit) (u : RecordUnit) (us : List RecordUnit) → o ≡ Some u → us ≡ [] → option_to_list o ++ us ≡ u ∷ []
  list_of o u us e f = rw (e, f) refl

  empty_of : (o : Option RecordUnit) (us : List RecordUnit) → o ≡ None → us ≡ [] → option_to_list o ++ us ≡ []
  empty_of o us e f = rw (e, f) refl

  no_start : (ps : List Piece) (p : Piece) → sought l p ≡ None → option_and_then (unit_after_seek l ps) (sought l p) ≡ None
  no_start ps p e = ap (option_and_then (unit_after_seek l ps)) e

  -- a seek, an exchange that moves bytes, and what tells the status
  three : (s x : Exchange) (p : Piece) (k : ℕ) (status : Option ℕ) (u : RecordUnit) →
      sought l (Whole s) ≡ Some k → sought l (Whole x) ≡ None → sought l p ≡ None → told_status l p ≡ Some status →
      unit_of l.drive k x (sent_bytes (entries_of l.controller x)) status ≡ Some u →
      units_of l (Whole s ∷ Whole x ∷ p ∷ []) ≡ u ∷ []
  three s x p k status u sought_s none_x none_p told unit =
      list_of _ u _
      (ap (option_and_then (unit_after_seek l (Whole x ∷ p ∷ []))) sought_s
      ∙ ap (option_and_then (unit_of l.drive k x (sent_bytes (entries_of l.controller x)))) told ∙ unit)
      (empty_of _ _ (no_start (p ∷ []) (Whole x) none_x) (empty_of _ [] (no_start [] p none_p) refl))

  -- the record that two bytes name
  abbrev pub named : Echo → Echo → ℕ
  named high low = 256 * byte_of high.sent + byte_of low.sent

  -- a write whose status byte came
  pub units_of-write : (high low : Echo) (ds : List Echo) (answer : Answer) (status : ℕ) → is_echo high ≡ true → is_echo low ≡ true → list_all is_echo ds ≡ true →
      0 < length (bytes_of ds) → sent_bytes (entries_of l.controller (poll answer)) ≡ status ∷ [] →
      units_of l (Whole (seek high low) ∷ Whole (write ds) ∷ Whole (poll answer) ∷ []) ≡ one_unit true (named high low) (bytes_of ds) (Some status) ∷ []
  units_of-write high low ds answer status h k e some told =
      three (seek high low) (write ds) (Whole (poll answer)) (named high low) (Some status) (one_unit true (named high low) (bytes_of ds) (Some status))
      (sought-seek high low h k) (sought-write ds) refl (told_status-poll answer status told)
      (ap (λ (bytes : List ℕ). unit_of l.drive (named high low) (write ds) bytes (Some status)) (sent_bytes-send l.controller l.drive (Some 2) ds e)
      ∙ unit_of-write (named high low) ds (bytes_of ds) (Some status) some)

  -- one whose status byte was not told
  pub units_of-write_untold : (high low : Echo) (ds : List Echo) (answer : Answer) (n : ℕ) (b : Break) → is_echo high ≡ true → is_echo low ≡ true → list_all is_echo ds ≡ true →
      0 < length (bytes_of ds) →
      units_of l (Whole (seek high low) ∷ Whole (write ds) ∷ Cut (poll answer) n b ∷ []) ≡ one_unit true (named high low) (bytes_of ds) None ∷ []
  units_of-write_untold high low ds answer n b h k e some =
      three (seek high low) (write ds) (Cut (poll answer) n b) (named high low) None (one_unit true (named high low) (bytes_of ds) None)
      (sought-seek high low h k) (sought-write ds) refl (told_status-cut answer n b)
      (ap (λ (bytes : List ℕ). unit_of l.drive (named high low) (write ds) bytes None) (sent_bytes-send l.controller l.drive (Some 2) ds e)
      ∙ unit_of-write (named high low) ds (bytes_of ds) None some)

  -- one that broke off when these bytes had been sent
  pub units_of-write_cut : (high low : Echo) (ds : List Echo) (n : ℕ) (b : Break) (bytes : List ℕ) → is_echo high ≡ true → is_echo low ≡ true →
      sent_bytes (cut_at (entries_of l.controller (write ds)) n b) ≡ bytes → 0 < length bytes →
      units_of l (Whole (seek high low) ∷ Cut (write ds) n b ∷ []) ≡ one_unit true (named high low) bytes None ∷ []
  units_of-write_cut high low ds n b bytes h k sent some =
      list_of _ (one_unit true (named high low) bytes None) _
      (ap (option_and_then (unit_after_seek l (Cut (write ds) n b ∷ []))) (sought-seek high low h k)
      ∙ ap (λ (bs : List ℕ). unit_of l.drive (named high low) (write ds) bs None) sent ∙ unit_of-write (named high low) ds bytes None some)
      refl

  -- and one that broke off before the first: no unit
  pub units_of-write_unbegun : (high low : Echo) (ds : List Echo) (n : ℕ) (b : Break) → is_echo high ≡ true → is_echo low ≡ true →
      sent_bytes (cut_at (entries_of l.controller (write ds)) n b) ≡ [] → units_of l (Whole (seek high low) ∷ Cut (write ds) n b ∷ []) ≡ []
  units_of-write_unbegun high low ds n b h k sent =
      empty_of _ _
      (ap (option_and_then (unit_after_seek l (Cut (write ds) n b ∷ []))) (sought-seek high low h k)
      ∙ ap (λ (bs : List ℕ). unit_of l.drive (named high low) (write ds) bs None) sent ∙ none_sent)
      refl
    where
      none_sent : unit_of l.drive (named high low) (write ds) [] None ≡ None
      none_sent = rw (same_drive) refl

  -- a read whose status byte came, with the bytes that it brought
  pub units_of-read : (high low : Echo) (came answer : Answer) (bytes : List ℕ) (status : ℕ) → is_echo high ≡ true → is_echo low ≡ true →
      sent_bytes (entries_of l.controller (read came)) ≡ bytes → sent_bytes (entries_of l.controller (poll answer)) ≡ status ∷ [] →
      units_of l (Whole (seek high low) ∷ Whole (read came) ∷ Whole (poll answer) ∷ []) ≡ one_unit false (named high low) bytes (Some status) ∷ []
  units_of-read high low came answer bytes status h k brought told =
      three (seek high low) (read came) (Whole (poll answer)) (named high low) (Some status) (one_unit false (named high low) bytes (Some status))
      (sought-seek high low h k) refl refl (told_status-poll answer status told)
      (ap (λ (bs : List ℕ). unit_of l.drive (named high low) (read came) bs (Some status)) brought ∙ unit_of-read (named high low) came bytes (Some status))

  -- one whose status byte was not told
  pub units_of-read_untold : (high low : Echo) (came answer : Answer) (bytes : List ℕ) (n : ℕ) (b : Break) → is_echo high ≡ true → is_echo low ≡ true →
      sent_bytes (entries_of l.controller (read came)) ≡ bytes →
      units_of l (Whole (seek high low) ∷ Whole (read came) ∷ Cut (poll answer) n b ∷ []) ≡ one_unit false (named high low) bytes None ∷ []
  units_of-read_untold high low came answer bytes n b h k brought =
      three (seek high low) (read came) (Cut (poll answer) n b) (named high low) None (one_unit false (named high low) bytes None)
      (sought-seek high low h k) refl refl (told_status-cut answer n b)
      (ap (λ (bs : List ℕ). unit_of l.drive (named high low) (read came) bs None) brought ∙ unit_of-read (named high low) came bytes None)

  -- and one that broke off when these bytes had been sent
  pub units_of-read_cut : (high low : Echo) (came : Answer) (n : ℕ) (b : Break) → is_echo high ≡ true → is_echo low ≡ true →
      units_of l (Whole (seek high low) ∷ Cut (read came) n b ∷ []) ≡ one_unit false (named high low) (sent_bytes (cut_at (entries_of l.controller (read came)) n b)) None ∷ []
  units_of-read_cut high low came n b h k =
      list_of _ (one_unit false (named high low) (sent_bytes (cut_at (entries_of l.controller (read came)) n b)) None) _
      (ap (option_and_then (unit_after_seek l (Cut (read came) n b ∷ []))) (sought-seek high low h k)
      ∙ unit_of-read (named high low) came (sent_bytes (cut_at (entries_of l.controller (read came)) n b)) None)
      refl
