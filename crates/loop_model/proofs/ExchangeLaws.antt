-- Laws of whole and broken logs.
use Rattle.std.proofs.Common.{◌≡◌, ℕ, zero, suc, ◌++◌, ◌&&◌, ◌==◌, ◌∙◌, Bool, true, false, not, List, [], ◌∷◌, map, flat_map, Option, Some, None, refl, sym, ap}
use Rattle.std.specs.List.{list_all}
use Rattle.std.proofs.lemmas.Bool.{and_parts, and_from, and_left, and_right, both_ways}
use Rattle.std.proofs.lemmas.List.Folds.{list_all-append}
use Rattle.std.proofs.lemmas.Grind.{flat_map-append}
use Rattle.il_frames.specs.declared.frame.Class.{Class}
use Rattle.il_frames.specs.declared.frame.Class.TheVariants as class
use Rattle.il_frames.specs.declared.frame.Frame.{Frame}
use Rattle.il_frames.specs.declared.entry.Entry.{Entry}
use Rattle.il_frames.specs.declared.entry.Outcome.{Outcome}
use Rattle.il_frames.specs.declared.entry.Outcome.TheVariants as outcome
use Rattle.il_frames.specs.Frames.{framed, class_of, same_class, is_data, same_but_service}
use Rattle.loop_model.specs.Loops.{Loop}
use Rattle.il_frames.specs.NamedFrames.{unt, ddl, ddt}
use Rattle.loop_model.specs.Exchanges.{Echo, Start, Sda, Sst, Sdi, Sai, Answer, NotTaken, ToItsEnd, Stopped, Exchange, Command, Address, Send, Receive, Identify, start_frame, returned, commanded, echoed, numbered, answer_entries, entries_of, is_echo, is_host_echo, is_some_data, is_number, is_answer, is_address, is_exchange, Break, FrameLost, HostAltered, TalkerAltered, break_entries, is_altered, is_end, is_break, cut_at, can_cut, Piece, Whole, Cut, piece_entries, is_piece, are_whole, breaks_off, Reading, IsWhole, IsBroken}

-- ---- no log is both

-- a frame that ended so was neither lost nor altered
abbrev pub stands_as : Frame → Outcome → Bool
stands_as f (outcome.Back g) = not (is_altered f g)
stands_as f (outcome.Taken q) = true
stands_as f (outcome.Lost q) = false

-- the entry tells of no fault
abbrev pub stands : Entry → Bool
stands e = stands_as e.frame e.outcome

-- two parts whose entries all stand
all_joined : (xs ys : List Entry) → list_all stands xs ≡ true → list_all stands ys ≡ true → list_all stands (xs ++ ys) ≡ true
all_joined xs ys a b = list_all-append stands xs ys ∙ and_from (list_all stands xs) (list_all stands ys) a b

module _ (l : Loop) where
  command_stands : (k : Class) (byte : ℕ) → same_class k class.Cmd ≡ true → list_all stands (commanded l.controller (framed k byte)) ≡ true
  command_stands class.Cmd byte e = refl
  command_stands k byte e = cc

  echo_stands : (p : ℕ) (d : Echo) → is_echo d ≡ true → stands (echoed p d) ≡ true
  echo_stands p d e = let parts = and_parts (is_data d.sent) (same_but_service d.sent d.back) e in rw (parts.0, parts.1) refl

  echoes_stand : (p : ℕ) (ds : List Echo) → list_all is_echo ds ≡ true → list_all stands (map (echoed p) ds) ≡ true
  echoes_stand p [] e = refl
  echoes_stand p (d ∷ ds) e =
      let parts = and_parts (is_echo d) (list_all is_echo ds) e in
      and_from (stands (echoed p d)) (list_all stands (map (echoed p) ds)) (echo_stands p d parts.0) (echoes_stand p ds parts.1)

  pub host_echoes : (ds : List Echo) → list_all is_host_echo ds ≡ true → list_all is_echo ds ≡ true
  host_echoes [] e = refl
  host_echoes (d ∷ ds) e =
      let parts = and_parts (is_host_echo d) (list_all is_host_echo ds) e in
      and_from (is_echo d) (list_all is_echo ds) ((and_parts (same_class (class_of d.sent) class.Dab) (is_echo d) parts.0).1) (host_echoes ds parts.1)

  numbered_stands : (frame : ℕ → Frame) (number : Option ℕ) → ((n : ℕ) → same_class (class_of (frame n)) class.Cmd ≡ true) → list_all stands (numbered l.controller frame number) ≡ true
  numbered_stands frame None e = refl
  numbered_stands frame (Some n) e = command_stands (frame n).class (frame n).byte (e n)

  start_stands : (start : Start) → stands (returned l.controller (start_frame start)) ≡ true
  start_stands Sda = refl
  start_stands Sst = refl
  start_stands Sdi = refl
  start_stands Sai = refl

  answer_stands : (start : Start) (answer : Answer) → is_answer l.controller answer ≡ true → list_all stands (answer_entries l.controller (start_frame start) answer) ≡ true
  answer_stands start NotTaken e = and_from (stands (returned l.controller (start_frame start))) true (start_stands start) refl
  answer_stands start (ToItsEnd p ds) e =
      let parts = and_parts _ (is_some_data ds && list_all is_echo ds) e in
      all_joined (map (echoed p) ds) _ (echoes_stand p ds ((and_parts (is_some_data ds) (list_all is_echo ds) parts.1).1)) refl
  answer_stands start (Stopped p ds last) e =
      let parts = and_parts _ (list_all is_echo ds && is_echo last) e in
      let echoes = and_parts (list_all is_echo ds) (is_echo last) parts.1 in
      all_joined (map (echoed p) ds) _ (echoes_stand p ds echoes.0)
      (and_from (stands (echoed p last)) true (echo_stands p last echoes.1) refl)

  -- each entry of an exchange stands
  pub exchange_stands : (x : Exchange) → is_exchange l x ≡ true → list_all stands (entries_of l.controller x) ≡ true
  exchange_stands (Command f) e = command_stands f.class f.byte ((and_parts (same_class (class_of f) class.Cmd) _ e).0)
  exchange_stands (Address devices) e = refl
  exchange_stands (Send a number ds) e =
      let parts = and_parts (is_address a) _ e in
      let numbers = and_parts (is_number number) (list_all is_host_echo ds) parts.1 in
      all_joined (numbered l.controller ddl number) _ (numbered_stands ddl number (λ n. refl)) (echoes_stand l.controller ds (host_echoes ds numbers.1))
  exchange_stands (Receive a number start answer) e =
      let parts = and_parts (is_address a) _ e in
      let numbers = and_parts (is_number number) (is_answer l.controller answer) parts.1 in
      all_joined (numbered l.controller ddt number ++ answer_entries l.controller (start_frame start) answer) (commanded l.controller unt)
      (all_joined (numbered l.controller ddt number) _ (numbered_stands ddt number (λ n. refl)) (answer_stands start answer numbers.1)) refl
  exchange_stands (Identify f) e = refl

  -- no break stands
  break_falls : (due : Entry) (b : Break) → is_break l.controller due b ≡ true → list_all stands (break_entries due b) ≡ false
  break_falls due (FrameLost q) e = refl
  break_falls due (HostAltered f) e = rw ((and_parts (due.source == l.controller) (is_altered due.frame f) e).1) refl
  break_falls due (TalkerAltered f end) e =
      let parts = and_parts (not (due.source == l.controller)) (is_altered due.frame f && is_end l.controller end) e in
      let altered = (and_parts (is_altered due.frame f) (is_end l.controller end) parts.1).0 in
      rw altered refl

  pub cut_falls : (es : List Entry) (n : ℕ) (b : Break) → can_cut l.controller es n b ≡ true → list_all stands (cut_at es n b) ≡ false
  cut_falls [] n b e = cc
  cut_falls (due ∷ es) zero b e = break_falls due b e
  cut_falls (due ∷ es) (suc n) b e = and_right (stands due) _ (cut_falls es n b e)

  pub whole_stands : (ps : List Piece) → list_all (is_piece l) ps ≡ true → are_whole ps ≡ true → list_all stands (flat_map (piece_entries l.controller) ps) ≡ true
  whole_stands [] legal whole = refl
  whole_stands (Whole x ∷ ps) legal whole =
      let parts = and_parts (is_exchange l x) (list_all (is_piece l) ps) legal in
      all_joined (entries_of l.controller x) (flat_map (piece_entries l.controller) ps) (exchange_stands x parts.0) (whole_stands ps parts.1 whole)
  whole_stands (Cut x n b ∷ ps) legal whole = cc

  broken_falls : (ps : List Piece) → list_all (is_piece l) ps ≡ true → breaks_off ps ≡ true → list_all stands (flat_map (piece_entries l.controller) ps) ≡ false
  broken_falls [] legal broken = cc
  broken_falls (Whole x ∷ ps) legal broken =
      let parts = and_parts (is_exchange l x) (list_all (is_piece l) ps) legal in
      list_all-append stands (entries_of l.controller x) (flat_map (piece_entries l.controller) ps) ∙ and_right _ _ (broken_falls ps parts.1 broken)
  broken_falls (Cut x n b ∷ []) legal broken =
      let parts = and_parts (is_exchange l x && can_cut l.controller (entries_of l.controller x) n b) true legal in
      list_all-append stands (cut_at (entries_of l.controller x) n b) [] ∙ and_left _ _ (cut_falls (entries_of l.controller x) n b ((and_parts (is_exchange l x) _ parts.0).1))
  broken_falls (Cut x n b ∷ p ∷ ps) legal broken = cc

  -- no log is both whole and broken
  pub not_both : (log : List Entry) → IsWhole l log → IsBroken l log → ⊥
  not_both log w b =
      both_ways (list_all stands log)
      (ap (list_all stands) b.reading.entries ∙ broken_falls b.reading.pieces b.reading.legal b.broken)
      (ap (list_all stands) w.reading.entries ∙ whole_stands w.reading.pieces w.reading.legal w.whole)

  -- ---- joined logs

  -- two lists of exchanges, joined
  abbrev pub Reading-append : {first second : List Entry} → Reading l first → Reading l second → Reading l (first ++ second)
  Reading-append a b = record {
    pieces = a.pieces ++ b.pieces;
    legal = list_all-append (is_piece l) a.pieces b.pieces ∙ and_from _ _ a.legal b.legal;
    entries = rw (a.entries, b.entries) (sym (flat_map-append (piece_entries l.controller) a.pieces b.pieces));
  }
