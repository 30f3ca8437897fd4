-- Where the machine comes from a place to between two exchanges, what stands at that place and the rest of the
-- log are together a list of whole and broken exchanges.
use Rattle.std.proofs.Common.{nat_le, eqb-true, ◌≡◌, ◌≤◌, ◌∙◌, ◌+◌, ◌-◌, ◌&&◌, ◌||◌, ◌==◌, ◌++◌, ℕ, suc, Bool, true, false, not, List, [], ◌∷◌, map, length, Option, Some, None, append-nil, append_assoc, refl, sym, ap, subst, arith}
use Rattle.std.specs.Prelude.{if◌then◌else◌}
use Rattle.std.specs.List.{list_all}
use Rattle.std.proofs.lemmas.Bool.{and_parts, and_from, leb-true, le-leb, lt-ltb}
use Rattle.std.proofs.lemmas.List.Folds.{list_all-append}
use Rattle.std.proofs.lemmas.List.{map-append}
use Rattle.il_frames.specs.declared.frame.Class.{Class}
use Rattle.il_frames.specs.declared.frame.Class.TheVariants as class
use Rattle.il_frames.specs.declared.frame.Frame.{Frame}
use Rattle.il_frames.specs.declared.entry.Entry.{Entry}
use Rattle.il_frames.specs.declared.entry.Outcome.{Outcome}
use Rattle.il_frames.specs.declared.entry.Outcome.TheVariants as outcome
use Rattle.il_frames.specs.Frames.{framed, class_of, byte_of, same_class, is_data, is_data_class, same_but_service}
use Rattle.il_device.specs.Takes.{eto, ete}
use Rattle.loop_model.specs.Loops.{Loop, host_loop}
use Rattle.il_frames.specs.NamedFrames.{entry, command, ready, unl, unt, lad, tad, ddl, ddt, rfc, nrd, aad, is_frame}
use Rattle.loop_model.specs.Exchanges.{Echo, Start, Sda, Answer, NotTaken, ToItsEnd, Stopped, Exchange, Command, Address, Send, Receive, Identify, start_frame, returned, commanded, echoed, numbered, receive_front, answer_entries, entries_of, is_echo, is_host_echo, is_some_data, is_number, is_answer, is_address, is_exchange, Break, FrameLost, HostAltered, TalkerAltered, break_entries, is_end, is_break, cut_at, can_cut, Piece, Whole, Cut, piece_entries, is_piece, Reading}
use Rattle.loop_model.proofs.ExchangeLaws.{Reading-append}
use Rattle.trace_readers.specs.declared.exchanges.Tail.{Tail}
use Rattle.trace_readers.specs.declared.exchanges.Tail.TheVariants as tail
use Rattle.trace_readers.specs.declared.exchanges.Place.{Place}
use Rattle.trace_readers.specs.declared.exchanges.Place.TheVariants as place
use Rattle.trace_readers.specs.Places.{fate_of, plain, begun, begun_by, after_returned, after_address, after_identify, hears, is_unlistened, is_within, after_other, after_command, after_frame, is_ddt_frame, after_due_start, after_spoken, after_end_frame, after_talk, step, place_after}
use Rattle.trace_readers.proofs.PassLemmas.{same_frame_self, same_self, no_place}
use Rattle.trace_readers.proofs.QuietLemmas.{quiet_byte}
use Rattle.trace_readers.proofs.FitLemmas.{is_frame-true, entry_parts, if_some, some_same, Went, Came, Gone, went, went_by, as_entry, Spoke, Echoed, Changed, Dropped, spoke, spoke_by, Ended, Took, Missed, ended, Started, Unanswered, Answering, Unstarted, started, class_is}

module _ (k d : ℕ) where
  abbrev ring : Loop
  ring = host_loop k d

  abbrev R : List Entry → Type 0
  R log = Reading ring log

  -- ---- lists of exchanges by one exchange more

  nothing : R []
  nothing = record { pieces = []; legal = refl; entries = refl }

  -- a whole or broken exchange
  piece : (p : Piece) → is_piece ring p ≡ true → R (piece_entries 0 p)
  piece p legal =
      record { pieces = p ∷ []; legal = and_from _ _ legal refl; entries = sym (append-nil (piece_entries 0 p)) }

  joined : (first second : List Entry) → R first → R second → R (first ++ second)
  joined first second a b = Reading-append ring a b

  -- a whole exchange before others
  whole : (x : Exchange) (rest : List Entry) → is_exchange ring x ≡ true → R rest → R (entries_of 0 x ++ rest)
  whole x rest legal r = joined (entries_of 0 x) rest (piece (Whole x) legal) r

  cut_seam : (front : List Entry) (due : Entry) (back : List Entry) (b : Break) →
      cut_at (front ++ due ∷ back) (length front) b ≡ front ++ break_entries due b
  cut_seam [] due back b = refl
  cut_seam (e ∷ front) due back b = ap (λ (es : List Entry). e ∷ es) (cut_seam front due back b)

  can_seam : (front : List Entry) (due : Entry) (back : List Entry) (b : Break) →
      can_cut 0 (front ++ due ∷ back) (length front) b ≡ is_break 0 due b
  can_seam [] due back b = refl
  can_seam (e ∷ front) due back b = can_seam front due back b

  -- an exchange that breaks off after this front, before others
  broken : (x : Exchange) (front : List Entry) (due : Entry) (back : List Entry) (b : Break) (rest : List Entry) →
      is_exchange ring x ≡ true → entries_of 0 x ≡ front ++ due ∷ back → is_break 0 due b ≡ true → R rest →
      R (front ++ (break_entries due b ++ rest))
  broken x front due back b rest legal is breaks r =
      let cut : cut_at (entries_of 0 x) (length front) b ≡ front ++ break_entries due b =
      ap (λ (es : List Entry). cut_at es (length front) b) is ∙ cut_seam front due back b in
      let can : can_cut 0 (entries_of 0 x) (length front) b ≡ true =
      ap (λ (es : List Entry). can_cut 0 es (length front) b) is ∙ can_seam front due back b ∙ breaks in
      let one : R (cut_at (entries_of 0 x) (length front) b) =
      piece (Cut x (length front) b) (and_from _ _ legal can) in
      subst R (ap (λ (es : List Entry). es ++ rest) cut ∙ append_assoc front (break_entries due b) rest)
      (joined (cut_at (entries_of 0 x) (length front) b) rest one r)

  -- ---- what stands at a place

  abbrev talk_front : ℕ → Option ℕ → Start → ℕ → List Echo → List Entry
  talk_front a number s p ds =
      (receive_front 0 a number ++ entry 0 (start_frame s) (outcome.Taken p) ∷ []) ++ map (echoed p) ds

  abbrev answer_front : ℕ → Option ℕ → Start → Answer → List Entry
  answer_front a number s answer = receive_front 0 a number ++ answer_entries 0 (start_frame s) answer

  -- after a command: RFC came back and the rest goes on, or it was lost
  data AfterRfc (P : List Entry → Type 0) (rest : List Entry) : Type 0 where
    Ready : (more : List Entry) → rest ≡ returned 0 rfc ∷ more → P more → AfterRfc P rest
    Unready : (q : ℕ) (more : List Entry) → rest ≡ entry 0 rfc (outcome.Lost q) ∷ more → R more → AfterRfc P rest

  -- the ETE of a party came to the host, or was lost
  data AfterEte (p : ℕ) (rest : List Entry) : Type 0 where
    Failing : (end : Outcome) (more : List Entry) → is_end 0 end ≡ true → rest ≡ entry p ete end ∷ more → R more →
        AfterEte p rest

  abbrev FitsBetween : Tail → List Entry → Type 0
  FitsBetween tail.Plain rest = R rest
  FitsBetween tail.Unlisten rest = R (commanded 0 unl ++ rest)
  FitsBetween tail.Listen rest = (a : ℕ) → is_address a ≡ true → R (commanded 0 unl ++ (commanded 0 (lad a) ++ rest))
  FitsBetween tail.Data rest =
      (a : ℕ) (number : Option ℕ) (ds : List Echo) → is_exchange ring (Send a number ds) ≡ true →
      R (entries_of 0 (Send a number ds) ++ rest)

  abbrev Fits : Place → List Entry → Type 0
  Fits (place.Between t) rest = FitsBetween t rest
  Fits (place.Commanded t) rest = AfterRfc (FitsBetween t) rest
  Fits place.Addressed rest = (a : ℕ) → is_address a ≡ true → R (commanded 0 unl ++ (returned 0 (tad a) ∷ rest))
  Fits place.Told rest = (a : ℕ) → is_address a ≡ true → R (receive_front 0 a None ++ rest)
  Fits place.Numbered rest =
      (a n : ℕ) → is_address a ≡ true → is_number (Some n) ≡ true →
      R (receive_front 0 a None ++ (returned 0 (ddt n) ∷ rest))
  Fits place.Starting rest =
      (a n : ℕ) → is_address a ≡ true → is_number (Some n) ≡ true → R (receive_front 0 a (Some n) ++ rest)
  Fits (place.Talking p spoke) rest =
      (a : ℕ) (number : Option ℕ) (s : Start) (ds : List Echo) → is_address a ≡ true → is_number number ≡ true →
      (p == 0) ≡ false → list_all is_echo ds ≡ true → is_some_data ds ≡ spoke → R (talk_front a number s p ds ++ rest)
  Fits (place.Stopping p) rest =
      (a : ℕ) (number : Option ℕ) (s : Start) (ds : List Echo) → is_address a ≡ true → is_number number ≡ true →
      (p == 0) ≡ false → list_all is_echo ds ≡ true → R (talk_front a number s p ds ++ (returned 0 nrd ∷ rest))
  Fits (place.Stopped p) rest =
      (a : ℕ) (number : Option ℕ) (s : Start) (ds : List Echo) (last : Echo) → is_address a ≡ true →
      is_number number ≡ true →
      (p == 0) ≡ false → list_all is_echo ds ≡ true → is_echo last ≡ true →
      R (talk_front a number s p ds ++ (returned 0 nrd ∷ echoed p last ∷ rest))
  Fits (place.Failed p) rest = AfterEte p rest
  Fits place.Answered rest =
      (a : ℕ) (number : Option ℕ) (s : Start) (answer : Answer) → is_address a ≡ true → is_number number ≡ true →
      is_answer 0 answer ≡ true → R (answer_front a number s answer ++ rest)

  -- ---- between two exchanges

  -- what is a list of exchanges stays one after any of these ends
  lift : (t : Tail) (rest : List Entry) → R rest → FitsBetween t rest
  lift tail.Plain rest r = r
  lift tail.Unlisten rest r = whole (Command unl) rest refl r
  lift tail.Listen rest r = λ a low. whole (Send a None []) rest (and_from _ _ low refl) r
  lift tail.Data rest r = λ a number ds legal. whole (Send a number ds) rest legal r

  -- data of the host is a list that can be longer
  dab_is_data : (c : Class) → same_class c class.Dab ≡ true → is_data_class c ≡ true
  dab_is_data class.Dab e = refl
  dab_is_data c e = cc

  is_said : (f g : Frame) → same_class (class_of f) class.Dab ≡ true → same_but_service f g ≡ true →
      is_host_echo (record { sent = f; back = g }) ≡ true
  is_said f g dab same = and_from _ _ dab (and_from _ _ (dab_is_data (class_of f) dab) same)

  longer_legal : (a : ℕ) (number : Option ℕ) (ds : List Echo) (e : Echo) → is_exchange ring (Send a number ds) ≡ true →
      is_host_echo e ≡ true → is_exchange ring (Send a number (ds ++ e ∷ [])) ≡ true
  longer_legal a number ds e legal said =
      let parts = and_parts (is_address a) (is_number number && list_all is_host_echo ds) legal in
      let both = and_parts (is_number number) (list_all is_host_echo ds) parts.1 in
      and_from _ _ parts.0 (and_from _ _ both.0
      (list_all-append is_host_echo ds (e ∷ []) ∙ and_from _ _ both.1 (and_from _ _ said refl)))

  longer : (p : ℕ) (front : List Entry) (ds : List Echo) (e : Echo) →
      front ++ map (echoed p) (ds ++ e ∷ []) ≡ (front ++ map (echoed p) ds) ++ echoed p e ∷ []
  longer p front ds e =
      ap (λ (es : List Entry). front ++ es) (map-append (echoed p) ds (e ∷ []))
      ∙ sym (append_assoc front (map (echoed p) ds) (echoed p e ∷ []))

  -- the host sent data that broke off
  send_break : (t : Tail) (f : Frame) (b : Break) (rest : List Entry) → hears t ≡ true →
      same_class (class_of f) class.Dab ≡ true →
      is_break 0 (entry 0 f (outcome.Back f)) b ≡ true → R rest →
      FitsBetween t (break_entries (entry 0 f (outcome.Back f)) b ++ rest)
  send_break tail.Plain f b rest hearing dab breaks r = cc
  send_break tail.Unlisten f b rest hearing dab breaks r = cc
  send_break tail.Listen f b rest hearing dab breaks r = λ a low.
      let said = is_said f f dab (same_frame_self f) in
      broken (Send a None (record { sent = f; back = f } ∷ [])) (commanded 0 unl ++ commanded 0 (lad a)) (entry 0 f
      (outcome.Back f)) [] b rest
      (and_from _ _ low (and_from _ _ said refl)) refl breaks r
  send_break tail.Data f b rest hearing dab breaks r = λ a number ds legal.
      let said = is_said f f dab (same_frame_self f) in
      broken (Send a number (ds ++ record { sent = f; back = f } ∷ [])) (entries_of 0 (Send a number ds)) (entry 0 f
      (outcome.Back f)) [] b rest
      (longer_legal a number ds (record { sent = f; back = f }) legal said)
      (longer 0 (commanded 0 unl ++ commanded 0 (lad a) ++ numbered 0 ddl number) ds
      (record { sent = f; back = f })) breaks r

  send_more : (t : Tail) (f g : Frame) (rest : List Entry) → hears t ≡ true → same_class (class_of f) class.Dab ≡ true →
      same_but_service f g ≡ true → FitsBetween tail.Data rest → FitsBetween t (entry 0 f (outcome.Back g) ∷ rest)
  send_more tail.Plain f g rest hearing dab same fits = cc
  send_more tail.Unlisten f g rest hearing dab same fits = cc
  send_more tail.Listen f g rest hearing dab same fits = λ a low.
      fits a None (record { sent = f; back = g } ∷ []) (and_from _ _ low (and_from _ _ (is_said f g dab same) refl))
  send_more tail.Data f g rest hearing dab same fits = λ a number ds legal.
      subst R
      (ap (λ (es : List Entry). es ++ rest) (longer 0 (commanded 0 unl ++ commanded 0
      (lad a) ++ numbered 0 ddl number) ds (record { sent = f; back = g }))
      ∙ append_assoc (entries_of 0 (Send a number ds)) (entry 0 f (outcome.Back g) ∷ []) rest)
      (fits a number (ds ++ record { sent = f; back = g } ∷ []) (longer_legal a number ds
      (record { sent = f; back = g }) legal (is_said f g dab same)))

  -- a command that is none of a talk address
  command_legal : (byte : ℕ) → is_within 0x40 0x5E byte ≡ false → is_exchange ring (Command (command byte)) ≡ true
  command_legal byte off = rw (quiet_byte byte off) refl

  other_more : (t : Tail) (byte : ℕ) (more : List Entry) → is_within 0x40 0x5E byte ≡ false →
      FitsBetween (after_other t byte) more → FitsBetween t (commanded 0 (command byte) ++ more)
  other_more tail.Plain byte more off fits = whole (Command (command byte)) more (command_legal byte off) fits
  other_more tail.Unlisten byte more off fits = by_range (is_within 0x20 0x3E byte) refl fits
    where
      by_range : (b : Bool) → is_within 0x20 0x3E byte ≡ b → FitsBetween (if b then tail.Listen else tail.Plain) more →
          R (commanded 0 unl ++ (commanded 0 (command byte) ++ more))
      by_range true within on =
          let parts = and_parts (nat_le 0x20 byte) (nat_le byte 0x3E) within in
          let low : 0x20 ≤ byte = leb-true 0x20 byte parts.0 in
          let high : byte ≤ 0x3E = leb-true byte 0x3E parts.1 in
          let is : 0x20 + (byte - 0x20) ≡ byte = omega arith in
          subst (λ (n : ℕ). R (commanded 0 unl ++ (commanded 0 (command n) ++ more))) is
          (on (byte - 0x20) (le-leb (byte - 0x20) 30 (omega arith)))
      by_range false within on =
          lift tail.Unlisten (commanded 0 (command byte) ++ more) (whole (Command (command byte)) more
          (command_legal byte off) on)
  other_more tail.Listen byte more off fits = by_range (is_within 0xA0 0xBF byte) refl fits
    where
      by_range : (b : Bool) → is_within 0xA0 0xBF byte ≡ b → FitsBetween (if b then tail.Data else tail.Plain) more →
          (a : ℕ) → is_address a ≡ true → R (commanded 0 unl ++ (commanded 0 (lad a) ++ (commanded 0
          (command byte) ++ more)))
      by_range true within on = λ a address.
          let parts = and_parts (nat_le 0xA0 byte) (nat_le byte 0xBF) within in
          let low : 0xA0 ≤ byte = leb-true 0xA0 byte parts.0 in
          let high : byte ≤ 0xBF = leb-true byte 0xBF parts.1 in
          let is : 0xA0 + (byte - 0xA0) ≡ byte = omega arith in
          subst (λ (n : ℕ). R (commanded 0 unl ++ (commanded 0 (lad a) ++ (commanded 0 (command n) ++ more)))) is
          (on a (Some (byte - 0xA0)) [] (and_from _ _ address (and_from _ _ (lt-ltb (byte - 0xA0) 32
          (omega arith)) refl)))
      by_range false within on =
          lift tail.Listen (commanded 0 (command byte) ++ more) (whole (Command (command byte)) more
          (command_legal byte off) on)
  other_more tail.Data byte more off fits =
      lift tail.Data (commanded 0 (command byte) ++ more) (whole (Command (command byte)) more
      (command_legal byte off) fits)

  ready_more : (t : Tail) (byte : ℕ) (more : List Entry) (b : Bool) → (byte == 0x3F) ≡ b →
      is_within 0x40 0x5E byte ≡ false →
      FitsBetween (if b then tail.Unlisten else after_other t byte) more →
      FitsBetween t (commanded 0 (command byte) ++ more)
  ready_more t byte more true is off fits =
      subst (λ (n : ℕ). FitsBetween t (commanded 0 (command n) ++ more)) (sym (eqb-true byte 0x3F is)) (lift t
      (commanded 0 unl ++ more) fits)
  ready_more t byte more false is off fits = other_more t byte more off fits

  command_more : (t : Tail) (byte : ℕ) (rest : List Entry) → is_within 0x40 0x5E byte ≡ false →
      AfterRfc (FitsBetween (after_command t byte)) rest → FitsBetween t (returned 0 (command byte) ∷ rest)
  command_more t byte rest off (Ready more is fits) =
      subst (λ (es : List Entry). FitsBetween t (returned 0 (command byte) ∷ es)) (sym is) (ready_more t byte more
      (byte == 0x3F) refl off fits)
  command_more t byte rest off (Unready q more is r) =
      subst (λ (es : List Entry). FitsBetween t (returned 0 (command byte) ∷ es)) (sym is)
      (lift t (returned 0 (command byte) ∷ entry 0 rfc (outcome.Lost q) ∷ more)
      (broken (Command (command byte)) (returned 0 (command byte) ∷ []) (returned 0 rfc) [] (FrameLost q) more
      (command_legal byte off) refl refl r))

  -- ---- receives

  receive_legal : (a : ℕ) (number : Option ℕ) (s : Start) (answer : Answer) → is_address a ≡ true →
      is_number number ≡ true →
      is_answer 0 answer ≡ true → is_exchange ring (Receive a number s answer) ≡ true
  receive_legal a number s answer low short legal = and_from _ _ low (and_from _ _ short legal)

  to_its_end : (a : ℕ) (number : Option ℕ) (s : Start) (p : ℕ) (ds : List Echo) →
      answer_front a number s (ToItsEnd p ds) ≡ talk_front a number s p ds ++ entry p eto (outcome.Taken 0) ∷ []
  to_its_end a number s p ds = simp append_assoc

  stopped_end : (a : ℕ) (number : Option ℕ) (s : Start) (p : ℕ) (ds : List Echo) (last : Echo) →
      answer_front a number s (Stopped p ds last)
      ≡ talk_front a number s p ds ++ (returned 0 nrd ∷ echoed p last ∷ entry p eto (outcome.Taken 0) ∷ [])
  stopped_end a number s p ds last = simp append_assoc

  regroup : (xs ys zs : List Entry) (e : Entry) → ((xs ++ e ∷ []) ++ ys) ++ zs ≡ xs ++ e ∷ (ys ++ zs)
  regroup xs ys zs e = simp append_assoc

  is_data_echo : (f g : Frame) → is_data f ≡ true → same_but_service f g ≡ true →
      is_echo (record { sent = f; back = g }) ≡ true
  is_data_echo f g data_frame same = and_from _ _ data_frame same

  some_longer : (ds : List Echo) (e : Echo) → is_some_data (ds ++ e ∷ []) ≡ true
  some_longer [] e = refl
  some_longer (d ∷ ds) e = refl

  all_longer : (ds : List Echo) (e : Echo) → list_all is_echo ds ≡ true → is_echo e ≡ true →
      list_all is_echo (ds ++ e ∷ []) ≡ true
  all_longer ds e all one = list_all-append is_echo ds (e ∷ []) ∙ and_from _ _ all (and_from _ _ one refl)

  other_party : (p : ℕ) → (p == 0) ≡ false → not (p == 0) ≡ true
  other_party p other = ap not other

  -- the talker's data broke off
  talk_break : (a : ℕ) (number : Option ℕ) (s : Start) (p : ℕ) (ds : List Echo) (f : Frame) (b : Break)
      (rest : List Entry) →
      is_address a ≡ true → is_number number ≡ true → (p == 0) ≡ false → list_all is_echo ds ≡ true → is_data f ≡ true →
      is_break 0 (entry p f (outcome.Back f)) b ≡ true → R rest →
      R (talk_front a number s p ds ++ (break_entries (entry p f (outcome.Back f)) b ++ rest))
  talk_break a number s p ds f b rest low short other all data_frame breaks r =
      let e : Echo = record { sent = f; back = f } in
      let one = is_data_echo f f data_frame (same_frame_self f) in
      broken (Receive a number s (ToItsEnd p (ds ++ e ∷ []))) (talk_front a number s p ds) (entry p f (outcome.Back f))
      (entry p eto (outcome.Taken 0) ∷ commanded 0 unt) b rest
      (receive_legal a number s (ToItsEnd p (ds ++ e ∷ [])) low short
      (and_from _ _ (other_party p other) (and_from _ _ (some_longer ds e) (all_longer ds e all one))))
      (ap (λ (es : List Entry). es ++ commanded 0 unt) (to_its_end a number s p (ds ++ e ∷ []))
      ∙ ap (λ (es : List Entry). (es ++ entry p eto (outcome.Taken 0) ∷ []) ++ commanded 0 unt)
      (longer p (receive_front 0 a number ++ entry 0 (start_frame s) (outcome.Taken p) ∷ []) ds e)
      ∙ regroup (talk_front a number s p ds) (entry p eto (outcome.Taken 0) ∷ []) (commanded 0 unt) (echoed p e))
      breaks r

  -- the last data frame of a talker that was stopped broke off
  last_break : (a : ℕ) (number : Option ℕ) (s : Start) (p : ℕ) (ds : List Echo) (f : Frame) (b : Break)
      (rest : List Entry) →
      is_address a ≡ true → is_number number ≡ true → (p == 0) ≡ false → list_all is_echo ds ≡ true → is_data f ≡ true →
      is_break 0 (entry p f (outcome.Back f)) b ≡ true → R rest →
      R (talk_front a number s p ds ++ (returned 0 nrd ∷ (break_entries (entry p f (outcome.Back f)) b ++ rest)))
  last_break a number s p ds f b rest low short other all data_frame breaks r =
      let e : Echo = record { sent = f; back = f } in
      let one = is_data_echo f f data_frame (same_frame_self f) in
      let front = talk_front a number s p ds in
      subst R (append_assoc front (returned 0 nrd ∷ []) (break_entries (entry p f (outcome.Back f)) b ++ rest))
      (broken (Receive a number s (Stopped p ds e)) (front ++ returned 0 nrd ∷ []) (entry p f (outcome.Back f))
      (entry p eto (outcome.Taken 0) ∷ commanded 0 unt) b rest
      (receive_legal a number s (Stopped p ds e) low short (and_from _ _ (other_party p other) (and_from _ _ all one)))
      (ap (λ (es : List Entry). es ++ commanded 0 unt) (stopped_end a number s p ds e)
      ∙ append_assoc front (returned 0 nrd ∷ echoed p e ∷ entry p eto (outcome.Taken 0) ∷ []) (commanded 0 unt)
      ∙ sym (append_assoc front (returned 0 nrd ∷ []) (echoed p e ∷ entry p eto (outcome.Taken 0) ∷ commanded 0 unt)))
      breaks r)

  -- which breaks a talker's data frame can have
  altered_breaks : (p : ℕ) (f g : Frame) (end : Outcome) → (p == 0) ≡ false → is_data f ≡ true →
      same_but_service f g ≡ false →
      is_end 0 end ≡ true → is_break 0 (entry p f (outcome.Back f)) (TalkerAltered g end) ≡ true
  altered_breaks p f g end other data_frame differs ends =
      and_from _ _ (other_party p other) (and_from _ _ (and_from _ _ data_frame (ap not differs)) ends)

  talk_more : (p : ℕ) (say : Bool) (f : Frame) (e : Entry) (at : Place) (rest : List Entry) → is_data f ≡ true →
      Spoke p f e (place.Talking p true) (place.Failed p) at → Fits at rest → Fits (place.Talking p say) (e ∷ rest)
  talk_more p say f e at rest data_frame (Echoed g is same to) fits = λ a number s ds low short other all spoke_so.
      let echo : Echo = record { sent = f; back = g } in
      let on : Fits (place.Talking p true) rest = subst (λ (x : Place). Fits x rest) to fits in
      subst (λ (x : Entry). R (talk_front a number s p ds ++ (x ∷ rest))) (sym is)
      (subst R
      (ap (λ (es : List Entry). es ++ rest) (longer p (receive_front 0 a number ++ entry 0 (start_frame s)
      (outcome.Taken p) ∷ []) ds echo)
      ∙ append_assoc (talk_front a number s p ds) (echoed p echo ∷ []) rest)
      (on a number s (ds ++ echo ∷ []) low short other (all_longer ds echo all (is_data_echo f g data_frame same))
      (some_longer ds echo)))
  talk_more p say f e at rest data_frame (Changed g is differs to) fits = λ a number s ds low short other all spoke_so.
      subst (λ (x : Entry). R (talk_front a number s p ds ++ (x ∷ rest))) (sym is)
      (by_end a number s ds low short other all (subst (λ (x : Place). Fits x rest) to fits))
    where
      by_end : (a : ℕ) (number : Option ℕ) (s : Start) (ds : List Echo) → is_address a ≡ true →
          is_number number ≡ true →
          (p == 0) ≡ false → list_all is_echo ds ≡ true → AfterEte p rest →
          R (talk_front a number s p ds ++ (entry p f (outcome.Back g) ∷ rest))
      by_end a number s ds low short other all (Failing end more ends shape r) =
          subst (λ (es : List Entry). R (talk_front a number s p ds ++ (entry p f (outcome.Back g) ∷ es))) (sym shape)
          (talk_break a number s p ds f (TalkerAltered g end) more low short other all data_frame
          (altered_breaks p f g end other data_frame differs ends) r)
  talk_more p say f e at rest data_frame (Dropped q is to) fits = λ a number s ds low short other all spoke_so.
      let on : R rest = subst (λ (x : Place). Fits x rest) to fits in
      subst (λ (x : Entry). R (talk_front a number s p ds ++ (x ∷ rest))) (sym is)
      (talk_break a number s p ds f (FrameLost q) rest low short other all data_frame refl on)

  last_more : (p : ℕ) (f : Frame) (e : Entry) (at : Place) (rest : List Entry) → is_data f ≡ true →
      Spoke p f e (place.Stopped p) (place.Failed p) at → Fits at rest → Fits (place.Stopping p) (e ∷ rest)
  last_more p f e at rest data_frame (Echoed g is same to) fits = λ a number s ds low short other all.
      let on : Fits (place.Stopped p) rest = subst (λ (x : Place). Fits x rest) to fits in
      subst (λ (x : Entry). R (talk_front a number s p ds ++ (returned 0 nrd ∷ x ∷ rest))) (sym is)
      (on a number s ds (record { sent = f; back = g }) low short other all (is_data_echo f g data_frame same))
  last_more p f e at rest data_frame (Changed g is differs to) fits = λ a number s ds low short other all.
      subst (λ (x : Entry). R (talk_front a number s p ds ++ (returned 0 nrd ∷ x ∷ rest))) (sym is)
      (by_end a number s ds low short other all (subst (λ (x : Place). Fits x rest) to fits))
    where
      by_end : (a : ℕ) (number : Option ℕ) (s : Start) (ds : List Echo) → is_address a ≡ true →
          is_number number ≡ true →
          (p == 0) ≡ false → list_all is_echo ds ≡ true → AfterEte p rest →
          R (talk_front a number s p ds ++ (returned 0 nrd ∷ entry p f (outcome.Back g) ∷ rest))
      by_end a number s ds low short other all (Failing end more ends shape r) =
          subst (λ (es : List Entry). R (talk_front a number s p ds ++ (returned 0 nrd ∷ entry p f
          (outcome.Back g) ∷ es))) (sym shape)
          (last_break a number s p ds f (TalkerAltered g end) more low short other all data_frame
          (altered_breaks p f g end other data_frame differs ends) r)
  last_more p f e at rest data_frame (Dropped q is to) fits = λ a number s ds low short other all.
      let on : R rest = subst (λ (x : Place). Fits x rest) to fits in
      subst (λ (x : Entry). R (talk_front a number s p ds ++ (returned 0 nrd ∷ x ∷ rest))) (sym is)
      (last_break a number s p ds f (FrameLost q) rest low short other all data_frame refl on)

  -- the talker ended after its data
  end_more : (p : ℕ) (e : Entry) (at : Place) (rest : List Entry) → Ended p eto e place.Answered at → Fits at rest →
      Fits (place.Talking p true) (e ∷ rest)
  end_more p e at rest (Took is to) fits = λ a number s ds low short other all spoke_so.
      let on : Fits place.Answered rest = subst (λ (x : Place). Fits x rest) to fits in
      subst (λ (x : Entry). R (talk_front a number s p ds ++ (x ∷ rest))) (sym is)
      (subst R
      (ap (λ (es : List Entry). es ++ rest) (to_its_end a number s p ds)
      ∙ append_assoc (talk_front a number s p ds) (entry p eto (outcome.Taken 0) ∷ []) rest)
      (on a number s (ToItsEnd p ds) low short (and_from _ _ (other_party p other) (and_from _ _ spoke_so all))))
  end_more p e at rest (Missed q is to) fits = λ a number s ds low short other all spoke_so.
      let on : R rest = subst (λ (x : Place). Fits x rest) to fits in
      subst (λ (x : Entry). R (talk_front a number s p ds ++ (x ∷ rest))) (sym is)
      (broken (Receive a number s (ToItsEnd p ds)) (talk_front a number s p ds) (entry p eto (outcome.Taken 0))
      (commanded 0 unt) (FrameLost q) rest
      (receive_legal a number s (ToItsEnd p ds) low short (and_from _ _ (other_party p other)
      (and_from _ _ spoke_so all)))
      (ap (λ (es : List Entry). es ++ commanded 0 unt) (to_its_end a number s p ds)
      ∙ append_assoc (talk_front a number s p ds) (entry p eto (outcome.Taken 0) ∷ []) (commanded 0 unt))
      refl on)

  -- the talker ended after it was stopped
  stop_more : (p : ℕ) (e : Entry) (at : Place) (rest : List Entry) → Ended p eto e place.Answered at → Fits at rest →
      Fits (place.Stopped p) (e ∷ rest)
  stop_more p e at rest (Took is to) fits = λ a number s ds last low short other all one.
      let on : Fits place.Answered rest = subst (λ (x : Place). Fits x rest) to fits in
      subst (λ (x : Entry). R (talk_front a number s p ds ++ (returned 0 nrd ∷ echoed p last ∷ x ∷ rest))) (sym is)
      (subst R
      (ap (λ (es : List Entry). es ++ rest) (stopped_end a number s p ds last)
      ∙ append_assoc (talk_front a number s p ds) (returned 0 nrd ∷ echoed p last ∷ entry p eto
      (outcome.Taken 0) ∷ []) rest)
      (on a number s (Stopped p ds last) low short (and_from _ _ (other_party p other) (and_from _ _ all one))))
  stop_more p e at rest (Missed q is to) fits = λ a number s ds last low short other all one.
      let on : R rest = subst (λ (x : Place). Fits x rest) to fits in
      let front = talk_front a number s p ds in
      subst (λ (x : Entry). R (front ++ (returned 0 nrd ∷ echoed p last ∷ x ∷ rest))) (sym is)
      (subst R (append_assoc front (returned 0 nrd ∷ echoed p last ∷ []) (entry p eto (outcome.Lost q) ∷ rest))
      (broken (Receive a number s (Stopped p ds last)) (front ++ (returned 0 nrd ∷ echoed p last ∷ [])) (entry p eto
      (outcome.Taken 0)) (commanded 0 unt) (FrameLost q) rest
      (receive_legal a number s (Stopped p ds last) low short (and_from _ _ (other_party p other)
      (and_from _ _ all one)))
      (ap (λ (es : List Entry). es ++ commanded 0 unt) (stopped_end a number s p ds last)
      ∙ append_assoc front (returned 0 nrd ∷ echoed p last ∷ entry p eto (outcome.Taken 0) ∷ []) (commanded 0 unt)
      ∙ sym (append_assoc front (returned 0 nrd ∷ echoed p last ∷ []) (entry p eto
      (outcome.Taken 0) ∷ commanded 0 unt)))
      refl on))

  -- UNT after an answer
  untalk_more : (e : Entry) (at : Place) (rest : List Entry) → Went unt e (place.Commanded tail.Plain) at →
      Fits at rest →
      Fits place.Answered (e ∷ rest)
  untalk_more e at rest (Came is to) fits = λ a number s answer low short legal.
      subst (λ (x : Entry). R (answer_front a number s answer ++ (x ∷ rest))) (sym is)
      (by_rfc a number s answer low short legal (subst (λ (x : Place). Fits x rest) to fits))
    where
      by_rfc : (a : ℕ) (number : Option ℕ) (s : Start) (answer : Answer) → is_address a ≡ true →
          is_number number ≡ true →
          is_answer 0 answer ≡ true → AfterRfc R rest → R (answer_front a number s answer ++ (returned 0 unt ∷ rest))
      by_rfc a number s answer low short legal (Ready more shape r) =
          let front = answer_front a number s answer in
          subst (λ (es : List Entry). R (front ++ (returned 0 unt ∷ es))) (sym shape)
          (subst R (append_assoc front (commanded 0 unt) more)
          (whole (Receive a number s answer) more (receive_legal a number s answer low short legal) r))
      by_rfc a number s answer low short legal (Unready q more shape r) =
          let front = answer_front a number s answer in
          subst (λ (es : List Entry). R (front ++ (returned 0 unt ∷ es))) (sym shape)
          (subst R (append_assoc front (returned 0 unt ∷ []) (entry 0 rfc (outcome.Lost q) ∷ more))
          (broken (Receive a number s answer) (front ++ returned 0 unt ∷ []) (returned 0 rfc) [] (FrameLost q) more
          (receive_legal a number s answer low short legal)
          (sym (append_assoc front (returned 0 unt ∷ []) (returned 0 rfc ∷ []))) refl r))
  untalk_more e at rest (Gone q is to) fits = λ a number s answer low short legal.
      let on : R rest = subst (λ (x : Place). Fits x rest) to fits in
      subst (λ (x : Entry). R (answer_front a number s answer ++ (x ∷ rest))) (sym is)
      (broken (Receive a number s answer) (answer_front a number s answer) (returned 0 unt) (returned 0 rfc ∷ [])
      (FrameLost q) rest
      (receive_legal a number s answer low short legal) refl refl on)

  -- a start message after a talk address
  start_more : (number : Option ℕ) (s : Start) (e : Entry) (at : Place) (rest : List Entry) → Started s e at →
      Fits at rest →
      (a : ℕ) → is_address a ≡ true → is_number number ≡ true → R (receive_front 0 a number ++ (e ∷ rest))
  start_more number s e at rest (Unanswered is to) fits = λ a low short.
      let on : Fits place.Answered rest = subst (λ (x : Place). Fits x rest) to fits in
      subst (λ (x : Entry). R (receive_front 0 a number ++ (x ∷ rest))) (sym is)
      (subst R (append_assoc (receive_front 0 a number) (returned 0 (start_frame s) ∷ []) rest)
      (on a number s NotTaken low short refl))
  start_more number s e at rest (Answering p is other to) fits = λ a low short.
      let on : Fits (place.Talking p false) rest = subst (λ (x : Place). Fits x rest) to fits in
      let front = receive_front 0 a number in
      let taken = entry 0 (start_frame s) (outcome.Taken p) in
      subst (λ (x : Entry). R (front ++ (x ∷ rest))) (sym is)
      (subst R (ap (λ (es : List Entry). es ++ rest) (append-nil (front ++ taken ∷ []))
      ∙ append_assoc front (taken ∷ []) rest)
      (on a number s [] low short other refl refl))
  start_more number s e at rest (Unstarted q is to) fits = λ a low short.
      let on : R rest = subst (λ (x : Place). Fits x rest) to fits in
      subst (λ (x : Entry). R (receive_front 0 a number ++ (x ∷ rest))) (sym is)
      (broken (Receive a number s NotTaken) (receive_front 0 a number) (returned 0 (start_frame s))
      (commanded 0 unt) (FrameLost q) rest
      (receive_legal a number s NotTaken low short refl)
      (append_assoc (receive_front 0 a number) (returned 0 (start_frame s) ∷ []) (commanded 0 unt)) refl on)

  -- RFC after the talk address
  told_more : (e : Entry) (at : Place) (rest : List Entry) → Went rfc e place.Told at → Fits at rest →
      Fits place.Addressed (e ∷ rest)
  told_more e at rest (Came is to) fits = λ a low.
      let on : Fits place.Told rest = subst (λ (x : Place). Fits x rest) to fits in
      subst (λ (x : Entry). R (commanded 0 unl ++ (returned 0 (tad a) ∷ x ∷ rest))) (sym is) (on a low)
  told_more e at rest (Gone q is to) fits = λ a low.
      let on : R rest = subst (λ (x : Place). Fits x rest) to fits in
      subst (λ (x : Entry). R (commanded 0 unl ++ (returned 0 (tad a) ∷ x ∷ rest))) (sym is)
      (broken (Receive a None Sda NotTaken) (commanded 0 unl ++ returned 0 (tad a) ∷ []) (returned 0 rfc)
      (returned 0 (start_frame Sda) ∷ commanded 0 unt) (FrameLost q) rest
      (receive_legal a None Sda NotTaken low refl refl) refl refl on)

  -- a DDT after the talk address
  ddt_more : (n : ℕ) (e : Entry) (at : Place) (rest : List Entry) → is_number (Some n) ≡ true →
      Went (ddt n) e place.Numbered at → Fits at rest →
      Fits place.Told (e ∷ rest)
  ddt_more n e at rest short (Came is to) fits = λ a low.
      let on : Fits place.Numbered rest = subst (λ (x : Place). Fits x rest) to fits in
      subst (λ (x : Entry). R (receive_front 0 a None ++ (x ∷ rest))) (sym is) (on a n low short)
  ddt_more n e at rest short (Gone q is to) fits = λ a low.
      let on : R rest = subst (λ (x : Place). Fits x rest) to fits in
      subst (λ (x : Entry). R (receive_front 0 a None ++ (x ∷ rest))) (sym is)
      (broken (Receive a (Some n) Sda NotTaken) (receive_front 0 a None) (returned 0 (ddt n))
      (returned 0 rfc ∷ returned 0 (start_frame Sda) ∷ commanded 0 unt) (FrameLost q) rest
      (receive_legal a (Some n) Sda NotTaken low short refl) refl refl on)

  -- RFC after the DDT
  numbered_more : (e : Entry) (at : Place) (rest : List Entry) → Went rfc e place.Starting at → Fits at rest →
      Fits place.Numbered (e ∷ rest)
  numbered_more e at rest (Came is to) fits = λ a n low short.
      let on : Fits place.Starting rest = subst (λ (x : Place). Fits x rest) to fits in
      subst (λ (x : Entry). R (receive_front 0 a None ++ (returned 0 (ddt n) ∷ x ∷ rest))) (sym is) (on a n low short)
  numbered_more e at rest (Gone q is to) fits = λ a n low short.
      let on : R rest = subst (λ (x : Place). Fits x rest) to fits in
      subst (λ (x : Entry). R (receive_front 0 a None ++ (returned 0 (ddt n) ∷ x ∷ rest))) (sym is)
      (broken (Receive a (Some n) Sda NotTaken) (receive_front 0 a None ++ returned 0 (ddt n) ∷ []) (returned 0 rfc)
      (returned 0 (start_frame Sda) ∷ commanded 0 unt) (FrameLost q) rest (receive_legal a
      (Some n) Sda NotTaken low short refl) refl refl on)

  -- NRD while a party talks
  nrd_more : (p : ℕ) (say : Bool) (e : Entry) (at : Place) (rest : List Entry) → Went nrd e (place.Stopping p) at →
      Fits at rest →
      Fits (place.Talking p say) (e ∷ rest)
  nrd_more p say e at rest (Came is to) fits = λ a number s ds low short other all spoke_so.
      let on : Fits (place.Stopping p) rest = subst (λ (x : Place). Fits x rest) to fits in
      subst (λ (x : Entry). R (talk_front a number s p ds ++ (x ∷ rest))) (sym is)
      (on a number s ds low short other all)
  nrd_more p say e at rest (Gone q is to) fits = λ a number s ds low short other all spoke_so.
      let on : R rest = subst (λ (x : Place). Fits x rest) to fits in
      let last : Echo = record { sent = framed class.Dab 0; back = framed class.Dab 0 } in
      let front = talk_front a number s p ds in
      subst (λ (x : Entry). R (front ++ (x ∷ rest))) (sym is)
      (broken (Receive a number s (Stopped p ds last)) front (returned 0 nrd) (echoed p last ∷ entry p eto
      (outcome.Taken 0) ∷ commanded 0 unt) (FrameLost q) rest
      (receive_legal a number s (Stopped p ds last) low short (and_from _ _ (other_party p other)
      (and_from _ _ all refl)))
      (ap (λ (es : List Entry). es ++ commanded 0 unt) (stopped_end a number s p ds last)
      ∙ append_assoc front (returned 0 nrd ∷ echoed p last ∷ entry p eto (outcome.Taken 0) ∷ []) (commanded 0 unt))
      refl on)

  -- ETE after an altered data frame
  ete_more : (p : ℕ) (e : Entry) (at : Place) (rest : List Entry) → Ended p ete e plain at → Fits at rest →
      Fits (place.Failed p) (e ∷ rest)
  ete_more p e at rest (Took is to) fits =
      Failing (outcome.Taken 0) rest refl (ap (λ (x : Entry). x ∷ rest) is) (subst (λ (x : Place). Fits x rest) to fits)
  ete_more p e at rest (Missed q is to) fits =
      Failing (outcome.Lost q) rest refl (ap (λ (x : Entry). x ∷ rest) is) (subst (λ (x : Place). Fits x rest) to fits)

  -- RFC after a command
  rfc_more : (t : Tail) (e : Entry) (at : Place) (rest : List Entry) → Went rfc e (place.Between t) at → Fits at rest →
      Fits (place.Commanded t) (e ∷ rest)
  rfc_more t e at rest (Came is to) fits =
      Ready rest (ap (λ (x : Entry). x ∷ rest) is) (subst (λ (x : Place). Fits x rest) to fits)
  rfc_more t e at rest (Gone q is to) fits =
      Unready q rest (ap (λ (x : Entry). x ∷ rest) is) (subst (λ (x : Place). Fits x rest) to fits)

  -- ---- what begins between two exchanges

  -- a talk address after UNL
  tad_more : (a : ℕ) (e : Entry) (at : Place) (rest : List Entry) → is_address a ≡ true →
      Went (tad a) e place.Addressed at → Fits at rest →
      FitsBetween tail.Unlisten (e ∷ rest)
  tad_more a e at rest low (Came is to) fits =
      let on : Fits place.Addressed rest = subst (λ (x : Place). Fits x rest) to fits in
      subst (λ (x : Entry). R (commanded 0 unl ++ (x ∷ rest))) (sym is) (on a low)
  tad_more a e at rest low (Gone q is to) fits =
      let on : R rest = subst (λ (x : Place). Fits x rest) to fits in
      subst (λ (x : Entry). R (commanded 0 unl ++ (x ∷ rest))) (sym is)
      (broken (Receive a None Sda NotTaken) (commanded 0 unl) (returned 0 (tad a))
      (returned 0 rfc ∷ returned 0 (start_frame Sda) ∷ commanded 0 unt) (FrameLost q) rest
      (receive_legal a None Sda NotTaken low refl refl) refl refl on)

  -- another command
  other_begins : (t : Tail) (byte : ℕ) (e : Entry) (at : Place) (rest : List Entry) → is_within 0x40 0x5E byte ≡ false →
      Went (command byte) e (place.Commanded (after_command t byte)) at → Fits at rest → FitsBetween t (e ∷ rest)
  other_begins t byte e at rest off (Came is to) fits =
      subst (λ (x : Entry). FitsBetween t (x ∷ rest)) (sym is) (command_more t byte rest off (subst (λ
      (x : Place). Fits x rest) to fits))
  other_begins t byte e at rest off (Gone q is to) fits =
      let on : R rest = subst (λ (x : Place). Fits x rest) to fits in
      subst (λ (x : Entry). FitsBetween t (x ∷ rest)) (sym is)
      (lift t (entry 0 (command byte) (outcome.Lost q) ∷ rest)
      (broken (Command (command byte)) [] (returned 0 (command byte)) (returned 0 rfc ∷ []) (FrameLost q) rest
      (command_legal byte off) refl refl on))

  talk_begins : (t : Tail) (byte : ℕ) (o : Outcome) (at : Place) (rest : List Entry) → is_within 0x40 0x5E byte ≡ true →
      (if is_unlistened t then after_returned place.Addressed (fate_of (command byte) o) else None) ≡ Some at →
      Fits at rest →
      FitsBetween t (entry 0 (command byte) o ∷ rest)
  talk_begins tail.Plain byte o at rest within leads fits = cc
  talk_begins tail.Unlisten byte o at rest within leads fits =
      let parts = and_parts (nat_le 0x40 byte) (nat_le byte 0x5E) within in
      let low : 0x40 ≤ byte = leb-true 0x40 byte parts.0 in
      let high : byte ≤ 0x5E = leb-true byte 0x5E parts.1 in
      let is : byte ≡ 0x40 + (byte - 0x40) = omega arith in
      tad_more (byte - 0x40) (entry 0 (command byte) o) at rest (le-leb (byte - 0x40) 30 (omega arith))
      (subst (λ (n : ℕ). Went (command n) (entry 0 (command byte) o) place.Addressed at) is
      (went_by o (command byte) place.Addressed at refl leads)) fits
  talk_begins tail.Listen byte o at rest within leads fits = cc
  talk_begins tail.Data byte o at rest within leads fits = cc

  command_begins : (t : Tail) (byte : ℕ) (o : Outcome) (at : Place) (rest : List Entry) (b : Bool) →
      is_within 0x40 0x5E byte ≡ b →
      (if b then (if is_unlistened t then after_returned place.Addressed (fate_of (command byte) o) else None)
      else after_returned (place.Commanded (after_command t byte)) (fate_of (command byte) o)) ≡ Some at →
      Fits at rest →
      FitsBetween t (entry 0 (command byte) o ∷ rest)
  command_begins t byte o at rest true within leads fits = talk_begins t byte o at rest within leads fits
  command_begins t byte o at rest false within leads fits =
      other_begins t byte (entry 0 (command byte) o) at rest within (went_by o (command byte) (place.Commanded
      (after_command t byte)) at refl leads) fits

  -- data of the host
  data_begins : (t : Tail) (byte : ℕ) (o : Outcome) (at : Place) (rest : List Entry) → hears t ≡ true →
      Spoke 0 (framed class.Dab byte) (entry 0 (framed class.Dab byte) o) (place.Between tail.Data) plain at →
      Fits at rest →
      FitsBetween t (entry 0 (framed class.Dab byte) o ∷ rest)
  data_begins t byte o at rest hearing (Echoed g is same to) fits =
      subst (λ (x : Entry). FitsBetween t (x ∷ rest)) (sym is)
      (send_more t (framed class.Dab byte) g rest hearing refl same (subst (λ (x : Place). Fits x rest) to fits))
  data_begins t byte o at rest hearing (Changed g is differs to) fits =
      subst (λ (x : Entry). FitsBetween t (x ∷ rest)) (sym is)
      (send_break t (framed class.Dab byte) (HostAltered g) rest hearing refl (ap not differs) (subst (λ
      (x : Place). Fits x rest) to fits))
  data_begins t byte o at rest hearing (Dropped q is to) fits =
      subst (λ (x : Entry). FitsBetween t (x ∷ rest)) (sym is)
      (send_break t (framed class.Dab byte) (FrameLost q) rest hearing refl refl (subst (λ
      (x : Place). Fits x rest) to fits))

  -- AAD 01
  address_begins : (t : Tail) (o : Outcome) (at : Place) (rest : List Entry) → after_address k o ≡ Some at →
      Fits at rest →
      FitsBetween t (entry 0 (aad 1) o ∷ rest)
  address_begins t (outcome.Back g) at rest leads fits =
      let on = if_some (is_frame g (aad (suc k))) (Some plain) at leads in
      let r : R rest = subst (λ (x : Place). Fits x rest) (sym (some_same plain at on.1)) fits in
      subst (λ (h : Frame). FitsBetween t (entry 0 (aad 1) (outcome.Back h) ∷ rest)) (sym (is_frame-true g (aad
      (suc k)) on.0))
      (lift t (entry 0 (aad 1) (outcome.Back (aad (suc k))) ∷ rest) (whole (Address k) rest (same_self k) r))
  address_begins t (outcome.Taken q) at rest leads fits = cc
  address_begins t (outcome.Lost q) at rest leads fits =
      let r : R rest = subst (λ (x : Place). Fits x rest) (sym (some_same plain at leads)) fits in
      lift t (entry 0 (aad 1) (outcome.Lost q) ∷ rest)
      (broken (Address k) [] (entry 0 (aad 1) (outcome.Back (aad (suc k)))) [] (FrameLost q) rest
      (same_self k) refl refl r)

  -- IDY 00
  identify_begins : (t : Tail) (o : Outcome) (at : Place) (rest : List Entry) → after_identify o ≡ Some at →
      Fits at rest →
      FitsBetween t (entry 0 (framed class.Idy 0x00) o ∷ rest)
  identify_begins t (outcome.Back g) at rest leads fits =
      let on = if_some (same_class (class_of g) class.Idy || same_class (class_of g) class.Isr) (Some plain) at leads in
      let r : R rest = subst (λ (x : Place). Fits x rest) (sym (some_same plain at on.1)) fits in
      lift t (entry 0 (framed class.Idy 0x00) (outcome.Back g) ∷ rest) (whole (Identify g) rest on.0 r)
  identify_begins t (outcome.Taken q) at rest leads fits = cc
  identify_begins t (outcome.Lost q) at rest leads fits =
      let r : R rest = subst (λ (x : Place). Fits x rest) (sym (some_same plain at leads)) fits in
      let f = framed class.Idy 0x00 in
      lift t (entry 0 f (outcome.Lost q) ∷ rest)
      (broken (Identify f) [] (entry 0 f (outcome.Back f)) [] (FrameLost q) rest refl refl refl r)

  begins : (t : Tail) (c : Class) (byte : ℕ) (o : Outcome) (at : Place) (rest : List Entry) →
      begun_by k t c byte o (fate_of (framed c byte) o) ≡ Some at → Fits at rest →
      FitsBetween t (entry 0 (framed c byte) o ∷ rest)
  begins t class.Dab byte o at rest leads fits =
      let on = if_some (hears t) _ at leads in
      data_begins t byte o at rest on.0 (spoke_by 0 o (framed class.Dab byte)
      (place.Between tail.Data) plain at on.1) fits
  begins t class.Dsr byte o at rest leads fits = cc
  begins t class.End byte o at rest leads fits = cc
  begins t class.Esr byte o at rest leads fits = cc
  begins t class.Cmd byte o at rest leads fits =
      command_begins t byte o at rest (is_within 0x40 0x5E byte) refl leads fits
  begins t class.Rdy byte o at rest leads fits =
      let on = if_some (byte == 0x81) (after_address k o) at leads in
      subst (λ (n : ℕ). FitsBetween t (entry 0 (ready n) o ∷ rest)) (sym (eqb-true byte 0x81 on.0))
      (address_begins t o at rest on.1 fits)
  begins t class.Idy byte o at rest leads fits =
      let on = if_some (byte == 0) (after_identify o) at leads in
      subst (λ (n : ℕ). FitsBetween t (entry 0 (framed class.Idy n) o ∷ rest)) (sym (eqb-true byte 0 on.0))
      (identify_begins t o at rest on.1 fits)
  begins t class.Isr byte o at rest leads fits = cc

  -- ---- one entry, and all

  told_step : (b : Bool) (e : Entry) (at : Place) (rest : List Entry) → ((e.source == 0) && is_ddt_frame e.frame) ≡ b →
      (if b then after_returned place.Numbered (fate_of e.frame e.outcome) else after_due_start e) ≡ Some at →
      Fits at rest →
      Fits place.Told (e ∷ rest)
  told_step true e at rest is leads fits =
      let both = and_parts (e.source == 0) (is_ddt_frame e.frame) is in
      let kinds = and_parts (same_class (class_of e.frame) class.Cmd) (is_within 0xC0 0xDF (byte_of e.frame)) both.1 in
      let byte = byte_of e.frame in
      let parts = and_parts (nat_le 0xC0 byte) (nat_le byte 0xDF) kinds.1 in
      let low : 0xC0 ≤ byte = leb-true 0xC0 byte parts.0 in
      let high : byte ≤ 0xDF = leb-true byte 0xDF parts.1 in
      let number : byte ≡ 0xC0 + (byte - 0xC0) = omega arith in
      let frame : e.frame ≡ ddt (byte - 0xC0) = class_is e.frame class.Cmd kinds.0 ∙ ap command number in
      let sent : e ≡ entry 0 (ddt (byte - 0xC0)) e.outcome =
      entry_parts e 0 (ddt (byte - 0xC0)) e.outcome (eqb-true _ _ both.0) frame refl in
      ddt_more (byte - 0xC0) e at rest (lt-ltb (byte - 0xC0) 32 (omega arith))
      (subst (λ (x : Entry). Went (ddt (byte - 0xC0)) x place.Numbered at) (sym sent)
      (went_by e.outcome (ddt (byte - 0xC0)) place.Numbered at refl
      (subst (λ (g : Frame). after_returned place.Numbered (fate_of g e.outcome) ≡ Some at) frame leads))) fits
  told_step false e at rest is leads fits =
      let start = started e at leads in
      λ a low. start_more None start.0 e at rest start.1 fits a low refl

  talk_step : (p : ℕ) (say : Bool) (e : Entry) (at : Place) (rest : List Entry) → after_talk p say e ≡ Some at →
      Fits at rest →
      Fits (place.Talking p say) (e ∷ rest)
  talk_step p say e at rest leads fits = by_source (e.source == 0) leads
    where
      by_say : (b : Bool) → (if b then after_end_frame p eto place.Answered e else None) ≡ Some at →
          Fits (place.Talking p b) (e ∷ rest)
      by_say true on = end_more p e at rest (ended p eto place.Answered at e on) fits
      by_say false on = cc

      by_data : (b : Bool) →
          (if b then after_spoken p (place.Talking p true) e else
          (if say then after_end_frame p eto place.Answered e else None)) ≡ Some at →
          Fits (place.Talking p say) (e ∷ rest)
      by_data true on =
          let said = spoke p (place.Talking p true) at e on in
          talk_more p say e.frame e at rest said.0 said.1 fits
      by_data false on = by_say say on

      by_source : (b : Bool) →
          (if b then after_frame nrd (place.Stopping p) e
          else (if is_data e.frame then after_spoken p (place.Talking p true) e
          else (if say then after_end_frame p eto place.Answered e else None))) ≡ Some at →
          Fits (place.Talking p say) (e ∷ rest)
      by_source true on = nrd_more p say e at rest (went nrd (place.Stopping p) at e refl on) fits
      by_source false on = by_data (is_data e.frame) on

  fits_step : (s : Place) (e : Entry) (at : Place) (rest : List Entry) → step k s e ≡ Some at → Fits at rest →
      Fits s (e ∷ rest)
  fits_step (place.Between t) e at rest leads fits =
      let on = if_some (e.source == 0) (begun k t e.frame e.outcome) at leads in
      subst (λ (x : Entry). FitsBetween t (x ∷ rest)) (sym (as_entry e 0 on.0))
      (begins t (class_of e.frame) (byte_of e.frame) e.outcome at rest on.1 fits)
  fits_step (place.Commanded t) e at rest leads fits =
      rfc_more t e at rest (went rfc (place.Between t) at e refl leads) fits
  fits_step place.Addressed e at rest leads fits = told_more e at rest (went rfc place.Told at e refl leads) fits
  fits_step place.Told e at rest leads fits =
      told_step ((e.source == 0) && is_ddt_frame e.frame) e at rest refl leads fits
  fits_step place.Numbered e at rest leads fits = numbered_more e at rest (went rfc place.Starting at e refl leads) fits
  fits_step place.Starting e at rest leads fits =
      let start = started e at leads in
      λ a n low short. start_more (Some n) start.0 e at rest start.1 fits a low short
  fits_step (place.Talking p say) e at rest leads fits = talk_step p say e at rest leads fits
  fits_step (place.Stopping p) e at rest leads fits =
      let said = spoke p (place.Stopped p) at e leads in
      last_more p e.frame e at rest said.0 said.1 fits
  fits_step (place.Stopped p) e at rest leads fits = stop_more p e at rest (ended p eto place.Answered at e leads) fits
  fits_step (place.Failed p) e at rest leads fits = ete_more p e at rest (ended p ete plain at e leads) fits
  fits_step place.Answered e at rest leads fits =
      untalk_more e at rest (went unt (place.Commanded tail.Plain) at e refl leads) fits

  fits_all : (s : Place) (rest : List Entry) (u : Tail) → place_after k (Some s) rest ≡ Some (place.Between u) →
      Fits s rest
  fits_all s [] u ends = subst (λ (x : Place). Fits x []) (sym (some_same s (place.Between u) ends)) (lift u [] nothing)
  fits_all s (e ∷ rest) u ends = by_step (step k s e) refl ends (λ at on. fits_all at rest u on)
    where
      by_step : (o : Option Place) → step k s e ≡ o → place_after k o rest ≡ Some (place.Between u) →
          ((at : Place) → place_after k (Some at) rest ≡ Some (place.Between u) → Fits at rest) → Fits s (e ∷ rest)
      by_step None is on more = let never : None ≡ Some (place.Between u) = sym (no_place k rest) ∙ on in cc
      by_step (Some at) is on more = fits_step s e at rest is (more at on)

  -- a log that leads to between two exchanges is a list of whole and broken exchanges
  pub place_reading : (log : List Entry) (u : Tail) → place_after k (Some plain) log ≡ Some (place.Between u) →
      Reading (host_loop k d) log
  place_reading log u ends = fits_all plain log u ends
