-- What devices heard, told by the log too, of exchanges one after the other.
use Rattle.std.proofs.Common.{◌≡◌, ◌≢◌, ◌∙◌, ◌≤◌, ◌++◌, ◌&&◌, ◌+◌, ℕ, true, List, [], ◌∷◌, Option, Some, None, length, refl, sym, ap, ap₂, arith, append-nil, append_assoc}
use Rattle.std.specs.List.{list_all}
use Rattle.std.proofs.lemmas.Bool.{and_parts, and_from}
use Rattle.std.proofs.lemmas.List.{length-map}
use Rattle.il_frames.specs.declared.entry.Entry.{Entry}
use Rattle.il_frames.specs.declared.frame.Class.TheVariants as class
use Rattle.il_frames.specs.Frames.{class_of, framed, same_class}
use Rattle.il_device.specs.State.{DeviceState}
use Rattle.il_device.specs.declared.roles.Roles.{Roles}
use Rattle.il_ports.specs.Media.{MediumView}
use Rattle.loop_model.specs.Exchanges.{Answer, Echo, Start, Send, Receive, cut_at, echoed, entries_of, is_address, is_answer, is_echo, is_exchange, is_host_echo, is_number, bytes_of}
use Rattle.loop_model.specs.Hearing.{heard_by, has_no_data}
use Rattle.loop_model.specs.Roles.{roles_after}
use Rattle.loop_model.proofs.HearLaws.{heard_by-append, heard_by-no_data}
use Rattle.loop_model.proofs.RoleLaws.{roles_after-append}
use Rattle.loop_model.proofs.SendLaws.{heard_by-others, heard_by-send}
use Rattle.il_ring.specs.Adds.{Adds}
use Rattle.il_ring.specs.Rings.{RingView, devices_of, roles_of}
use Rattle.il_control.specs.Calls.{BrokenOff, Broke, IsIdle, Made, NotSent, Unheard, Whole, loop_of, sent_as}
use Rattle.il_record.specs.Came.{NoneHeard, OnlyHeard, OthersUnheard, heard_on}
use Rattle.il_record.proofs.Heard.{nothing_heard, others_same, others_then}
use Rattle.il_record.proofs.Hearing.{heard_by-cut_none, heard_by-cut_one, heard_by-receive}

-- ---- of entries

-- none but party a heard anything of them
abbrev NoneBut : {M : Type 0} → ℕ → RingView M → List Entry → Type 0
NoneBut a r entries = (k : ℕ) → 1 ≤ k → k ≤ length (devices_of r) → k ≢ a → heard_on r k entries ≡ []

heard_adds : {M : Type 0} (view : M → MediumView) (a : ℕ) (from to : Option ℕ) (entries : List Entry) (r s : RingView M) → Adds view r from entries to s → OthersUnheard a 1 (devices_of r) (devices_of s) → NoneBut a r entries → OnlyHeard a r s
heard_adds view a from to entries r s adds others none = record { unheard = others; entries = entries; log = adds.log; roles = adds.roles; size = adds.size; by_log = none }

-- what a party heard of entries after others
heard_behind : {M : Type 0} (k : ℕ) (r m : RingView M) (first more : List Entry) → roles_of (devices_of m) ≡ roles_after (roles_of (devices_of r)) first → length (devices_of m) ≡ length (devices_of r)
    → heard_on r k (first ++ more) ≡ heard_on r k first ++ heard_on m k more
heard_behind k r m first more roles size =
    heard_by-append (length (devices_of r)) k (roles_of (devices_of r)) first more
    ∙ ap₂ (λ (n : ℕ) (rs : List Roles). heard_on r k first ++ heard_by n k rs more) (sym size) (sym roles)

-- ---- one after the other

pub heard_same : {M : Type 0} (a : ℕ) (r : RingView M) → OnlyHeard a r r
heard_same a r = record { unheard = others_same a 1 (devices_of r); entries = []; log = sym (append-nil r.books.log); roles = refl; size = refl; by_log = λ k some here other. refl }

-- that no other heard anything, and what party a heard by the log
abbrev pub OnlyHeardBytes : {M : Type 0} → ℕ → List ℕ → RingView M → RingView M → Type 0
OnlyHeardBytes a bytes r s = (only : OnlyHeard a r s) × (1 ≤ a → a ≤ length (devices_of r) → heard_on r a only.entries ≡ bytes)

abbrev both_heard : {M : Type 0} (a : ℕ) (r m s : RingView M) → OnlyHeard a r m → OnlyHeard a m s → OnlyHeard a r s
both_heard a r m s first more = record {
  unheard = others_then a 1 (devices_of r) (devices_of m) (devices_of s) first.unheard more.unheard;
  entries = first.entries ++ more.entries;
  log = more.log ∙ ap (λ (log : List Entry). log ++ more.entries) first.log ∙ append_assoc r.books.log first.entries more.entries;
  roles = more.roles ∙ ap (λ (rs : List Roles). roles_after rs more.entries) first.roles ∙ sym (roles_after-append (roles_of (devices_of r)) first.entries more.entries);
  size = more.size ∙ first.size;
  by_log = λ k some here other.
      heard_behind k r m first.entries more.entries first.roles first.size
      ∙ ap₂ (λ (a b : List ℕ). a ++ b) (first.by_log k some here other) (more.by_log k some (omega (arith, here, first.size)) other);
}

pub heard_then : {M : Type 0} (a : ℕ) (r m s : RingView M) → OnlyHeard a r m → OnlyHeard a m s → OnlyHeard a r s
heard_then a r m s first more = both_heard a r m s first more

bytes_then : {M : Type 0} (a : ℕ) (bytes rest : List ℕ) (r m s : RingView M) → OnlyHeardBytes a bytes r m → OnlyHeardBytes a rest m s → OnlyHeardBytes a (bytes ++ rest) r s
bytes_then a bytes rest r m s first more = (
  both_heard a r m s first.0 more.0,
  λ some here.
      let size = first.0.size in
      heard_behind a r m first.0.entries more.0.entries first.0.roles first.0.size ∙ ap₂ (λ (a b : List ℕ). a ++ b) (first.1 some here) (more.1 some (omega (arith, here, size))),
)

-- ---- no device heard anything

others_none : (a k : ℕ) (ds es : List DeviceState) → 1 ≤ k → OthersUnheard 0 k ds es → OthersUnheard a k ds es
others_none a k [] [] some none = tt
others_none a k (d ∷ ds) (e ∷ es) some none = ((λ other. none.0 (λ zero. omega (arith, some, zero))), others_none a (k + 1) ds es (omega (arith, some)) none.1)
others_none a k _ _ some none = absurd none

-- as it is told of one party
pub none_by : {M : Type 0} (a : ℕ) (r s : RingView M) → NoneHeard r s → OnlyHeardBytes a [] r s
none_by a r s none = (
  record {
    unheard = others_none a 1 (devices_of r) (devices_of s) (omega arith) none.unheard;
    entries = none.entries;
    log = none.log;
    roles = none.roles;
    size = none.size;
    by_log = λ k some here other. none.by_log k some here (λ zero. omega (arith, some, zero));
  },
  λ some here. none.by_log a some here (λ zero. omega (arith, some, zero)),
)

pub heard_none : {M : Type 0} (a : ℕ) (r s : RingView M) → NoneHeard r s → OnlyHeard a r s
heard_none a r s none = (none_by a r s none).0

none_of : {M : Type 0} (r s : RingView M) → Unheard r s → OthersUnheard 0 1 (devices_of r) (devices_of s)
none_of r s none = nothing_heard 0 1 (length (devices_of r)) (devices_of r) (devices_of s) none

module _ {M : Type 0} (view : M → MediumView) (r s : RingView M) where
  -- of entries without data frames, whole or broken off
  pub none_whole : (entries : List Entry) → list_all has_no_data entries ≡ true → Whole view r entries s → NoneHeard r s
  none_whole entries plain whole =
      heard_adds view 0 None None entries r s whole.adds (none_of r s (whole.unheard plain)) (λ k some here other. heard_by-no_data (length (devices_of r)) k (roles_of (devices_of r)) entries plain)

  pub none_broke : (entries : List Entry) → list_all has_no_data entries ≡ true → Broke view r entries s → NoneHeard r s
  none_broke entries plain broke =
      heard_adds view 0 None broke.held_at_end (cut_at entries broke.standing broke.break) r s broke.adds (none_of r s (broke.unheard plain))
      (λ k some here other. heard_by-cut_none (length (devices_of r)) k (roles_of (devices_of r)) entries broke.standing broke.break broke.legal (heard_by-no_data (length (devices_of r)) k (roles_of (devices_of r)) entries plain))

  -- of a receive
  receive_none : (a : ℕ) (number : Option ℕ) (start : Start) (answer : Answer) → is_exchange (loop_of r) (Receive a number start answer) ≡ true → (k : ℕ) → heard_on r k (entries_of 0 (Receive a number start answer)) ≡ []
  receive_none a number start answer legal k =
      let parts = and_parts (is_address a) (is_number number && is_answer 0 answer) legal in
      let rest = and_parts (is_number number) (is_answer 0 answer) parts.1 in
      heard_by-receive (length (devices_of r)) k a (roles_of (devices_of r)) number start answer parts.0 rest.0 rest.1

  pub none_received : (a : ℕ) (number : Option ℕ) (start : Start) (answer : Answer) → Made view (Receive a number start answer) r s → Unheard r s → NoneHeard r s
  none_received a number start answer made none = heard_adds view 0 None None (entries_of 0 (Receive a number start answer)) r s made.whole.adds (none_of r s none) (λ k some here other. receive_none a number start answer made.legal k)

  pub none_not_received : (a : ℕ) (number : Option ℕ) (start : Start) (answer : Answer) → BrokenOff view (Receive a number start answer) r s → Unheard r s → NoneHeard r s
  none_not_received a number start answer broken none =
      let broke = broken.broke in
      heard_adds view 0 None broke.held_at_end (cut_at (entries_of 0 (Receive a number start answer)) broke.standing broke.break) r s broke.adds (none_of r s none)
      (λ k some here other. heard_by-cut_none (length (devices_of r)) k (roles_of (devices_of r)) (entries_of 0 (Receive a number start answer)) broke.standing broke.break broke.legal (receive_none a number start answer broken.legal k))

-- ---- a send

host_echo : (d : Echo) → is_host_echo d ≡ true → is_echo d ≡ true
host_echo d h = (and_parts (same_class (class_of d.sent) class.Dab) (is_echo d) h).1

host_echoes : (ds : List Echo) → list_all is_host_echo ds ≡ true → list_all is_echo ds ≡ true
host_echoes [] h = refl
host_echoes (d ∷ ds) h = let both = and_parts (is_host_echo d) (list_all is_host_echo ds) h in and_from (is_echo d) (list_all is_echo ds) (host_echo d both.0) (host_echoes ds both.1)

pub send_echoes : {M : Type 0} (r : RingView M) (a : ℕ) (number : Option ℕ) (ds : List Echo) → is_exchange (loop_of r) (Send a number ds) ≡ true → list_all is_echo ds ≡ true
send_echoes r a number ds legal = host_echoes ds (and_parts (is_number number) (list_all is_host_echo ds) (and_parts (is_address a) (is_number number && list_all is_host_echo ds) legal).1).1

-- no byte was sent
pub no_data_sent : (a : ℕ) (number : Option ℕ) → list_all has_no_data (entries_of 0 (Send a number [])) ≡ true
no_data_sent a None = refl
no_data_sent a (Some n) = refl

module _ {M : Type 0} (view : M → MediumView) (a : ℕ) (r s : RingView M) where
  -- each byte of a whole send was heard
  pub heard_sent : (number : Option ℕ) (ds : List Echo) (bytes : List ℕ) → IsIdle r → bytes_of ds ≡ bytes → Made view (Send a number ds) r s → OthersUnheard a 1 (devices_of r) (devices_of s) → OnlyHeardBytes a bytes r s
  heard_sent number ds bytes idle are made others =
      let n = length (devices_of r) in
      let rs = roles_of (devices_of r) in
      let echoes = send_echoes r a number ds made.legal in
      let parts = and_parts (is_address a) (is_number number && list_all is_host_echo ds) made.legal in
      let small = (and_parts (is_number number) (list_all is_host_echo ds) parts.1).0 in
      let size : length rs ≡ n = length-map (devices_of r) (λ (d : DeviceState). d.roles) in (
        record {
          unheard = others;
          entries = entries_of 0 (Send a number ds);
          log = made.whole.adds.log;
          roles = made.whole.adds.roles;
          size = made.whole.adds.size;
          by_log = λ k some here other. heard_by-others n a k rs number ds idle.numbered parts.0 some (omega (arith, here, size)) other small echoes;
        },
        λ some here. heard_by-send n a rs number ds idle.numbered parts.0 some (omega (arith, here, size)) small echoes ∙ are,
      )

  -- nothing of a byte that broke off
  none_sent : (byte : ℕ) → NotSent view byte r s → OthersUnheard a 1 (devices_of r) (devices_of s) → OnlyHeardBytes a [] r s
  none_sent byte not others =
      let broke = not.broke in
      let due : Entry = echoed 0 (sent_as byte (framed class.Dab byte)) in
      let entries : List Entry = cut_at (due ∷ []) broke.standing broke.break in
      let none : (k : ℕ) → heard_on r k entries ≡ [] = λ k. heard_by-cut_one (length (devices_of r)) k (roles_of (devices_of r)) due broke.standing broke.break broke.legal in
      (record { unheard = others; entries = entries; log = broke.adds.log; roles = broke.adds.roles; size = broke.adds.size; by_log = λ k some here other. none k }, λ some here. none a)

-- a send that broke off at a byte: those before it were heard
pub heard_in_part : {M : Type 0} (view : M → MediumView) (a byte : ℕ) (bytes : List ℕ) (r m s : RingView M) → OnlyHeardBytes a bytes r m → NotSent view byte m s → OthersUnheard a 1 (devices_of m) (devices_of s) → OnlyHeardBytes a bytes r s
heard_in_part view a byte bytes r m s first not others =
    let both = bytes_then a bytes [] r m s first (none_sent view a m s byte not others) in
    (both.0, λ some here. both.1 some here ∙ append-nil bytes)
