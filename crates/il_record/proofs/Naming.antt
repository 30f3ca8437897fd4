-- Accessory IDs, device by device.
use Rattle.std.proofs.Common.{◌≡◌, ◌∙◌, ◌≤◌, ◌<◌, ◌+◌, ◌*◌, ◌-◌, ◌++◌, ◌==◌, ℕ, zero, suc, Bool, true, false, List, [], ◌∷◌, Option, Some, None, take, drop, length, get_or, refl, sym, ap, subst, arith, append-nil, length-append, ◌&&◌, nat_le, not}
use Rattle.std.specs.Prelude.{if◌then◌else◌}
use Rattle.std.proofs.lemmas.Bool.{and_parts, eq-eqb, eqb-true}
use Rattle.il_device.specs.State.{DeviceState}
use Rattle.il_ports.specs.Media.{MediumView}
use Rattle.loop_model.specs.Exchanges.{Answer, NotTaken, ToItsEnd, Stopped, Receive, Sai, is_address, is_answer, answers_as_asked}
use Rattle.il_ring.specs.Lists.{First}
use Rattle.il_ring.specs.Rings.{RingView, devices_of, spare_of}
use Rattle.il_control.specs.Calls.{IsIdle, Stays}
use Rattle.il_control.specs.Receives.{Received, NotReceived, accessory_at, id_bytes, received, is_stopped}
use Rattle.il_control.proofs.Calls.{hears_then}
use Rattle.il_record.specs.Asks.{Ask, AskTell, CameAsked, told_of, up_to}
use Rattle.il_record.specs.LoopCalls.{LeftAlone, Named, id_asks, id_told, ids_of}
use Rattle.il_record.proofs.Asking.{asked_broken, asked_made, asked_nothing, asked_on, asked_up_to, up_to_next}
use Rattle.il_record.proofs.CameLaws.{tape_same}
use Rattle.il_record.proofs.HeardLogs.{heard_same, heard_then, none_not_received, none_received}
use Rattle.il_record.proofs.MildCame.{left_as_was, leaves_then, not_received_leaves, received_leaves}
use Rattle.il_record.proofs.Readings.{idle_mute}
use Rattle.il_record.proofs.Used.{received_room}

-- ---- what devices keep

keeps_then : (c d e : DeviceState) → Stays false c d → Stays false d e → Stays false c e
keeps_then c d e first more = record { nothing = hears_then c d e first.nothing more.nothing; place = more.place ∙ first.place; wants = λ is. cc }

all_then : (cs ds es : List DeviceState) → First (Stays false) (length cs) cs ds → First (Stays false) (length ds) ds es → First (Stays false) (length cs) cs es
all_then [] [] [] first more = tt
all_then (c ∷ cs) (d ∷ ds) (e ∷ es) first more = (keeps_then c d e first.0 more.0, all_then cs ds es first.1 more.1)
all_then [] (d ∷ ds) es first more = absurd first
all_then (c ∷ cs) [] es first more = absurd first
all_then _ _ _ first more = absurd more

all_same : (ds : List DeviceState) → First (Stays false) (length ds) ds ds
all_same [] = tt
all_same (d ∷ ds) = (record { nothing = record { heard = refl; heard_count = refl; room = refl; accessory = refl }; place = refl; wants = λ is. cc }, all_same ds)

ids_stay : (i : ℕ) (ds es : List DeviceState) → First (Stays false) (length ds) ds es → accessory_at i es ≡ accessory_at i ds
ids_stay i [] [] stays = refl
ids_stay zero (d ∷ ds) (e ∷ es) stays = stays.0.nothing.accessory
ids_stay (suc i) (d ∷ ds) (e ∷ es) stays = ids_stay i ds es stays.1
ids_stay i _ _ stays = absurd stays

module _ {M : Type 0} (view : M → MediumView) where
  pub left_then : (whole : Bool) (asks more : List Ask) (r m s : RingView M) → IsIdle r → LeftAlone view true asks r m → LeftAlone view whole more m s → LeftAlone view whole (asks ++ more) r s
  left_then whole asks rest r m s idle first more = record {
    came = asked_on view whole asks rest r m s idle first.came more.came;
    stays = all_then (devices_of r) (devices_of m) (devices_of s) first.stays more.stays;
    unheard = heard_then 0 r m s first.unheard more.unheard;
    drive = leaves_then r.drive m.drive s.drive first.drive more.drive;
  }

  pub left_nothing : (r : RingView M) → IsIdle r → r.drive.state.interface.own ≡ None → LeftAlone view true [] r r
  left_nothing r idle silent = record { came = asked_nothing view r idle; stays = all_same (devices_of r); unheard = heard_same 0 r; drive = left_as_was r.drive silent }

-- they are asked for the same
ids_asked_same : (a : ℕ) (ds es : List DeviceState) → First (Stays false) (length ds) ds es → id_asks es a ≡ id_asks ds a
ids_asked_same a ds es stays = ap (λ id. AskTell a None Sai (id_told a id) ∷ []) (ids_stay (a - 1) ds es stays)

-- ---- one device

not_both : (b : Bool) → b ≡ true → b ≡ false → {A : Type 0} → A
not_both true is other = cc
not_both false is other = cc

-- by the bytes that were received into one place
by_bytes : (k a : ℕ) (id : Option ℕ) (answer : Answer) (n long : ℕ) → answers_as_asked k (Receive a None Sai answer) ≡ true → is_answer 0 answer ≡ true → received answer ≡ id_bytes id → n ≡ length (received answer) → long ≡ 1 → is_stopped answer ≡ (n == long) → told_of answer ≡ id_told a id
by_bytes k a None NotTaken n long asked legal bytes count one stops = refl
by_bytes k a None (ToItsEnd p []) n long asked legal bytes count one stops = let none : false ≡ true = (and_parts (not (p == 0)) false legal).1 in cc
by_bytes k a (Some id) (ToItsEnd p ds) n long asked legal bytes count one stops =
    let same : n ≡ long = count ∙ ap length bytes ∙ sym one in
    not_both (n == long) (eq-eqb n long same) (sym stops)
by_bytes k a None (Stopped p [] last) n long asked legal bytes count one stops = cc
by_bytes k a (Some id) (Stopped p [] last) n long asked legal bytes count one stops =
    let party : p ≡ a = eqb-true p a (and_parts (p == a) (nat_le 1 a && nat_le a k) asked).0 in
    λ i. Some (record { party = party i; bytes = bytes i; stopped = true })
by_bytes k a None (Stopped p (d ∷ ds) last) n long asked legal bytes count one stops = cc
by_bytes k a (Some id) (Stopped p (d ∷ []) last) n long asked legal bytes count one stops = cc
by_bytes k a (Some id) (Stopped p (d ∷ e ∷ ds) last) n long asked legal bytes count one stops = cc
by_bytes k a _ _ n long asked legal bytes count one stops = cc

-- a receive of an accessory ID into one byte: the device of that address told its own, or has none
received_id : {M : Type 0} (view : M → MediumView) (a n : ℕ) (r s : RingView M) (old new : List ℕ) → length old ≡ 1 → (got : Received view a None Sai n r old new s) → told_of got.answer ≡ id_told a (accessory_at (a - 1) (devices_of r))
received_id view a n r s old new one got =
    let legal = and_parts (is_address a) _ got.made.legal in
    let answer = and_parts true (is_answer 0 got.answer) legal.1 in
    by_bytes (length (devices_of r)) a (accessory_at (a - 1) (devices_of r)) got.answer n (length old) got.asked answer.1 (got.id refl) got.count one got.stops

told_by : (id : Option ℕ) (n : ℕ) (bytes old new : List ℕ) → bytes ≡ id_bytes id → n ≡ length bytes → new ≡ bytes ++ drop n old → (if n == 0 then None else Some (get_or new 0 0)) ≡ id
told_by None n bytes old new is count are =
    let none : n ≡ 0 = count ∙ ap length is in
    ap (λ n. if n == 0 then None else Some (get_or new 0 0)) none
told_by (Some id) n bytes old new is count are =
    let one : n ≡ 1 = count ∙ ap length is in
    ap (λ n. if n == 0 then None else Some (get_or new 0 0)) one ∙ ap (λ bytes. Some (get_or bytes 0 0)) (are ∙ ap (λ bytes. bytes ++ drop n old) is)

module _ {M : Type 0} (view : M → MediumView) (a : ℕ) (r s : RingView M) (low : a ≤ 30) (silent : r.drive.state.interface.own ≡ None) where
  pub named : (n : ℕ) (old new : List ℕ) (id : Option ℕ) → length old ≡ 1 → 44 ≤ spare_of r → id ≡ (if n == 0 then None else Some (get_or new 0 0)) → Received view a None Sai n r old new s → Named view a id r s
  named n old new id one room is got =
      let drive = received_leaves view a n r old new s low silent got in
      let few = got.within in
      let left = received_room view a n (spare_of r - 13) None Sai r old new s got (omega (arith, few, one, room)) in
      record {
        id_is = is ∙ told_by (accessory_at (a - 1) (devices_of r)) n (received got.answer) old new (got.id refl) got.count got.bytes;
        left = record {
          came = subst (λ told. CameAsked view true (AskTell a None Sai told ∷ []) r s) (received_id view a n r s old new one got)
              (asked_made view (Receive a None Sai got.answer) r s got.made refl (tape_same view r.drive s.drive drive.medium));
          stays = got.stays;
          unheard = none_received view r s a None Sai got.answer got.made got.unheard;
          drive = drive;
        };
        room = omega (arith, left);
      }

  pub not_named : (w : ℕ) → NotReceived view a None Sai w r s → LeftAlone view false (id_asks (devices_of r) a) r s
  not_named w got =
      let drive = not_received_leaves view a w r s low silent got in
      let told = id_told a (accessory_at (a - 1) (devices_of r)) in
      record {
        came = asked_broken view (AskTell a None Sai told) [] (Receive a None Sai got.answer) r s (told, refl) got.broken (tape_same view r.drive s.drive drive.medium);
        stays = got.stays;
        unheard = none_not_received view r s a None Sai got.answer got.broken got.unheard;
        drive = drive;
      }

-- ---- one after the other

take_ids : (i : ℕ) (ds : List DeviceState) → i < length ds → take (suc i) (ids_of ds) ≡ take i (ids_of ds) ++ accessory_at i ds ∷ []
take_ids i [] within = absurd (omega (arith, within))
take_ids zero (d ∷ ds) within = refl
take_ids (suc i) (d ∷ ds) within = ap (λ ids. d.accessory ∷ ids) (take_ids i ds (omega (arith, within)))

-- the first i devices were asked
pub record NamedSo {M : Type 0} (view : M → MediumView) (i : ℕ) (ids : List (Option ℕ)) (r s : RingView M) : Type 0 where
  pub ids_are : ids ≡ take i (ids_of (devices_of r))
  pub many : length ids ≡ i
  pub left : LeftAlone view true (up_to (id_asks (devices_of r)) i) r s
  pub idle : IsIdle s
  pub silent : s.drive.state.interface.own ≡ None
  pub room : spare_of r ≤ spare_of s + 13 * i

module _ {M : Type 0} (view : M → MediumView) (r : RingView M) (idle : IsIdle r) where
  pub named_none : r.drive.state.interface.own ≡ None → (ids : List (Option ℕ)) → ids ≡ [] → NamedSo view 0 ids r r
  named_none silent ids none = record { ids_are = none; many = ap length none; left = left_nothing view r idle silent; idle = idle; silent = silent; room = omega arith }

  pub named_more : (i : ℕ) (ids more : List (Option ℕ)) (id : Option ℕ) (m s : RingView M) → i < length (devices_of r) → more ≡ ids ++ id ∷ [] → NamedSo view i ids r m → Named view (i + 1) id m s → NamedSo view (i + 1) more r s
  named_more i ids more id m s within are so named =
      let asks = id_asks (devices_of r) in
      let left = subst (λ asks. LeftAlone view true asks r s) (up_to_next asks i) (left_then view true (up_to asks i) (asks (i + 1)) r m s idle so.left (subst (λ asks. LeftAlone view true asks m s) (ids_asked_same (i + 1) (devices_of r) (devices_of m) so.left.stays) named.left)) in
      let now : IsIdle s = named.left.came.units.came.talked.state in
      let place : i + 1 - 1 ≡ i = omega arith in
      let up : suc i ≡ i + 1 = omega arith in
      let room = so.room in
      let spent = named.room in
      let long = so.many in
      let all = ap length are in
      let one_more = length-append ids (id ∷ []) in
      record {
        ids_are =
            are ∙ ap (λ ids. ids ++ id ∷ []) so.ids_are
            ∙ ap (λ id. take i (ids_of (devices_of r)) ++ id ∷ []) (named.id_is ∙ ap (λ i. accessory_at i (devices_of m)) place ∙ ids_stay i (devices_of r) (devices_of m) so.left.stays)
            ∙ sym (take_ids i (devices_of r) within) ∙ ap (λ n. take n (ids_of (devices_of r))) up;
        many = omega (arith, all, one_more, long);
        left = left;
        idle = now;
        silent = named.left.drive.silent (idle_mute s now);
        room = omega (arith, room, spent);
      }

  pub named_part : (i n : ℕ) (ids : List (Option ℕ)) (m s : RingView M) → i + 1 ≤ n → NamedSo view i ids r m → LeftAlone view false (id_asks (devices_of m) (i + 1)) m s → LeftAlone view false (up_to (id_asks (devices_of r)) n) r s
  named_part i n ids m s within so broken =
      let asks = id_asks (devices_of r) in
      let came = asked_up_to view asks i n [] r m s within idle so.left.came (subst (λ asks. CameAsked view false asks m s) (ids_asked_same (i + 1) (devices_of r) (devices_of m) so.left.stays) broken.came) in
      record {
        came = subst (λ asks. CameAsked view false asks r s) (append-nil (up_to asks n)) came;
        stays = all_then (devices_of r) (devices_of m) (devices_of s) so.left.stays broken.stays;
        unheard = heard_then 0 r m s so.left.unheard broken.unheard;
        drive = leaves_then r.drive m.drive s.drive so.left.drive broken.drive;
      }
