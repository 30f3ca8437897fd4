-- The calls of a lend, one after the other.
use Rattle.std.proofs.lemmas.Bool.{and_parts, eqb-true, ltb-true}
use Rattle.std.proofs.Common.{Bool, List, None, [], ap, arith, false, inl, inr, is_some, length, length-append, nat_lt, refl, subst, suc, sym, true, zero, ℕ, ⊎_elim, ◌&&◌, ◌*◌, ◌++◌, ◌+◌, ◌<◌, ◌==◌, ◌||◌, ◌∙◌, ◌∷◌, ◌≡◌, ◌≢◌, ◌≤◌, ◌⊎◌}
use Rattle.std.proofs.lemmas.List.{append_cancel_left}
use Rattle.il_frames.specs.declared.frame.Frame.{Frame}
use Rattle.il_frames.specs.declared.entry.Entry.{Entry}
use Rattle.il_frames.specs.declared.entry.Outcome.{Outcome}
use Rattle.il_frames.specs.declared.entry.Outcome.TheVariants as outcome
use Rattle.il_frames.specs.NamedFrames.{entry, ifc, unt}
use Rattle.il_ports.specs.Media.{MediumView}
use Rattle.loop_model.specs.Exchanges.{FrameLost, commanded, cut_at, receive_front, returned}
use Rattle.il_guest.specs.Frames.{tct}
use Rattle.il_ring.specs.declared.plan.Arrival.{Arrival}
use Rattle.il_ring.specs.declared.plan.Arrival.TheVariants as arrival
use Rattle.il_ring.specs.Flights.{sourced}
use Rattle.il_ring.specs.Guests.{IsUnderHost}
use Rattle.il_ring.specs.HandedOver.{HandLost, HandedOver}
use Rattle.il_ring.specs.Lending.{HostKeeps, IsControlled, ControlledRound, StandsNow, about_to_send, entry_of_kept, hands_over, taken_back}
use Rattle.il_ring.specs.Lends.{NoTakerCut, came_back, handed_entries}
use Rattle.il_ring.specs.Rings.{IsRing, Round, RingView, devices_of, spare_of}
use Rattle.il_ring.proofs.HandLosses.{hand_sent}
use Rattle.il_ring.proofs.ControlledRounds.{not_controlled}
use Rattle.il_control.specs.declared.lending.Handed.TheVariants as handed
use Rattle.il_control.specs.Calls.{Broke, IsFree, IsIdle, Whole, arrives}
use Rattle.il_control.specs.Lent.{Hands, HandsOver, IsLentNow, LendBroken, LendMade, LentSo, PolledUntil, TctLost, controller_at}
use Rattle.il_control.specs.Receives.{Asked}
use Rattle.il_control.proofs.Calls.{Done, broke_before, broke_before_break, broke_before_standing, broke_after, broke_after_break, broke_after_standing, cut_within, plain_call, room_after, whole_then}
use Rattle.il_control.proofs.LendEnds.{as_taken, cut_broken, lent_made, lent_not, where_short}
use Rattle.il_control.proofs.LendFronts.{refused_broken, refused_made}
use Rattle.il_control.proofs.LendHands.{hands_where}
use Rattle.il_control.proofs.LentPasses.{lent_some}
use Rattle.il_control.proofs.LentTaken.{lent_or_broke}
use Rattle.il_control.proofs.TakingControl.{about_controlled}

-- ---- TCT

abbrev lost_before : Outcome → ℕ
lost_before (outcome.Lost party) = party
lost_before _ = 0

abbrev lost_party : List Entry → ℕ
lost_party [] = 0
lost_party (e ∷ es) = lost_before e.outcome

module _ {M : Type 0} (view : M → MediumView) (r s : RingView M) (f : Frame) (answer : Arrival) (is : f ≡ tct) (free : IsFree r) (host : IsUnderHost r.guest) (round : HostKeeps r f → Round view r r.books.held (sourced 0 f) answer s) (controlled_round : IsUnderHost r.guest → hands_over r f ≡ true → ControlledRound view r (sourced 0 f) answer s)
    (lent : IsRing r → IsUnderHost r.guest → hands_over r f ≡ true → (IsRing s × IsUnderHost s.guest) ⊎ (IsControlled s × StandsNow answer s.books.lent)) where
  -- it went round as any frame of the host
  record WentRound : Type 0 where
    done : Done view r (returned 0 tct ∷ []) (arrives answer) s
    under : IsUnderHost s.guest

  went_by : Round view r r.books.held (sourced 0 tct) answer s → WentRound
  went_by round = record {
    done = plain_call view r s r.books.held tct answer round free.held free refl;
    under = subst IsUnderHost (sym round.guest) host;
  }

  -- and if a second controller was to take it, it was lost before that one
  record WentPast : Type 0 where
    went : WentRound
    none : (g : Frame) → answer ≡ arrival.Frame g → hands_over r tct ≡ false
    lost : hands_over r tct ≡ true → HandLost r answer s

  -- or that one took it
  what_came : WentPast ⊎ Hands view r s
  what_came = by (hands_over r tct) refl
    where
      by : (hands : Bool) → hands_over r tct ≡ hands → WentPast ⊎ Hands view r s
      by false none = inl (record {
        went = went_by (subst (λ f. Round view r r.books.held (sourced 0 f) answer s) is (round (record { host = host; hands = ap (hands_over r) is ∙ none })));
        none = λ g came. none;
        lost = λ hands. let clash = sym hands ∙ none in cc;
      })
      by true hands =
          let here = ap (hands_over r) is ∙ hands in
          let at : ControlledRound view r (sourced 0 tct) answer s = subst (λ f. ControlledRound view r (sourced 0 f) answer s) is (controlled_round host here) in
          ⊎_elim
          (λ lost. inl (record { went = went_by lost.1; none = λ g came. let clash = sym came ∙ lost.0.answer_is in cc; lost = λ hands. lost.0 }))
          (λ (over : HandedOver r answer s).
          inr (record {
            answer = answer;
            round = at;
            hands = hands;
            over = over;
            controlled = ⊎_elim (λ ring. absurd (leads_on over ring.1)) (λ controlled. controlled.0) (lent free.ring host here);
          }))
          (hand_sent view r s answer at free.ring host hands)
        where
          leads_on : HandedOver r answer s → IsUnderHost s.guest → ⊥
          leads_on over under = let under_then = subst IsUnderHost over.mind_then under in let clash = sym over.control ∙ under_then in cc

  stands : Hands view r s → StandsNow answer s.books.lent
  stands hands = ⊎_elim (λ ring. absurd (no_ring ring.0 ring.1)) (λ controlled. controlled.1) (lent free.ring host (ap (hands_over r) is ∙ hands.hands))
    where
      no_ring : IsRing s → IsUnderHost s.guest → ⊥
      no_ring ring under = let clash = sym (not_controlled s.guest under) ∙ hands.controlled.leads in cc

  -- so it did not come as far as the host
  not_home : (broke : Broke view r (returned 0 tct ∷ []) s) → HandLost r answer s → broke.break ≢ FrameLost 0
  not_home broke lost home = by broke.standing (cut_within (returned 0 tct ∷ []) broke.standing broke.break broke.legal) (sym broke.adds.log ∙ lost.log_is)
    where
      by : (n : ℕ) → n < 1 → r.books.log ++ cut_at (returned 0 tct ∷ []) n broke.break ≡ r.books.log ++ entry 0 tct (outcome.Lost lost.party) ∷ [] → ⊥
      by zero few same =
          let last : entry 0 tct (outcome.Lost 0) ∷ [] ≡ entry 0 tct (outcome.Lost lost.party) ∷ [] =
          ap (cut_at (returned 0 tct ∷ []) 0) (sym home) ∙ append_cancel_left r.books.log (cut_at (returned 0 tct ∷ []) 0 broke.break) (entry 0 tct (outcome.Lost lost.party) ∷ []) same in
          let none : 0 ≡ lost.party = ap lost_party last in
          let some = lost.some in
          absurd (omega (arith, none, some))
      by (suc n) few same = absurd (omega (arith, few))

  pub hand_lost : answer ≡ arrival.Lost → HandsOver view r handed.Broken s
  hand_lost lost = ⊎_elim
      (λ past.
      let broke : Broke view r (returned 0 tct ∷ []) s = subst (λ whole. Done view r (returned 0 tct ∷ []) whole s) (ap arrives lost) past.went.done in
      inl (record { broke = broke; before = λ hands. not_home broke (past.lost hands) }))
      (λ hands. inr (hands, subst (λ answer. StandsNow answer s.books.lent) lost (stands hands)))
      what_came

  pub hand_taken : (g : Frame) → answer ≡ arrival.Frame g → is_some s.books.lent ≡ true → HandsOver view r handed.Taken s
  hand_taken g came some = ⊎_elim
      (λ past.
      let whole : Whole view r (returned 0 tct ∷ []) s = subst (λ whole. Done view r (returned 0 tct ∷ []) whole s) (ap arrives came) past.went.done in
      let clash = sym some ∙ ap is_some whole.ring.lent in cc)
      (λ hands. (hands, some))
      what_came

  pub hand_not : (g : Frame) → answer ≡ arrival.Frame g → is_some s.books.lent ≡ false → HandsOver view r handed.NotTaken s
  hand_not g came none = ⊎_elim
      (λ past. (subst (λ whole. Done view r (returned 0 tct ∷ []) whole s) (ap arrives came) past.went.done, past.none g came, past.went.under))
      (λ hands. let now = subst (λ answer. StandsNow answer s.books.lent) came (stands hands) in let clash = sym none ∙ ap is_some now.1 in cc)
      what_came

-- ---- nobody took it

module _ {M : Type 0} (view : M → MediumView) (a limit : ℕ) (q : RingView M) (idle : IsIdle q) (some : 1 ≤ a) (low : a ≤ 30) where
  -- before TCT came to the host nothing is said of who would take it
  early : (n p : ℕ) → n ≤ 4 → (n ≡ 4 → p ≢ 0) → came_back (NoTakerCut a n p) ≡ true → ⊥
  early n p few other back = by (nat_lt 4 n) refl back
    where
      by : (more : Bool) → nat_lt 4 n ≡ more → (more || ((n == 4) && (p == 0))) ≡ true → ⊥
      by true more back = let less = ltb-true 4 n more in omega (arith, few, less)
      by false more back = let parts = and_parts (n == 4) (p == 0) back in other (eqb-true n 4 parts.0) (eqb-true p 0 parts.1)

  pub not_asked : (s : RingView M) → Broke view q (receive_front 0 a None) s → LendBroken a limit q s
  not_asked s broke =
      refused_broken view a limit q s idle low (broke_before view q s (receive_front 0 a None) (returned 0 tct ∷ commanded 0 unt) broke)
      (λ p is back.
      let few = cut_within (receive_front 0 a None) broke.standing broke.break broke.legal in
      let same = broke_before_standing view q s (receive_front 0 a None) (returned 0 tct ∷ commanded 0 unt) broke in
      absurd (early (broke_before view q s (receive_front 0 a None) (returned 0 tct ∷ commanded 0 unt) broke).standing p (omega (arith, few, same)) (λ four. let no : ⊥ = omega (arith, few, same, four) in absurd no) back))

  module _ (r : RingView M) (asked : Asked view a None q r) where
    front_ring : IsRing q
    front_ring = idle.free.ring

    nobody_there : (controller_at a q ≡ true → ⊥) → controller_at a q ≡ false
    nobody_there not = by (controller_at a q) refl
      where
        by : (there : Bool) → controller_at a q ≡ there → controller_at a q ≡ false
        by true is = absurd (not is)
        by false is = is

    pub not_handed : (s : RingView M) → TctLost view r s → LendBroken a limit q s
    not_handed s lost =
        let broke = lost.broke in
        let more = broke_before view r s (returned 0 tct ∷ []) (commanded 0 unt) broke in
        let all = broke_after view q r s (receive_front 0 a None) (returned 0 tct ∷ commanded 0 unt) front_ring asked.whole more in
        refused_broken view a limit q s idle low all
        (λ p is back.
        let few = cut_within (returned 0 tct ∷ []) broke.standing broke.break broke.legal in
        let same = broke_before_standing view r s (returned 0 tct ∷ []) (commanded 0 unt) broke in
        let sum = broke_after_standing view q r s (receive_front 0 a None) (returned 0 tct ∷ commanded 0 unt) front_ring asked.whole more in
        let last : broke.break ≡ FrameLost p =
        sym (broke_before_break view r s (returned 0 tct ∷ []) (commanded 0 unt) broke) ∙ sym (broke_after_break view q r s (receive_front 0 a None) (returned 0 tct ∷ commanded 0 unt) front_ring asked.whole more) ∙ is in
        nobody_there (λ there. early all.standing p (omega (arith, few, same, sum)) (λ four none. lost.before (hands_where view q r a idle some low asked ∙ there) (last ∙ ap (λ p. FrameLost p) none)) back))

    module _ (m : RingView M) (nobody : HandsOver view r handed.NotTaken m) where
      front : Whole view q (receive_front 0 a None ++ returned 0 tct ∷ []) m
      front = whole_then view q r m (receive_front 0 a None) (returned 0 tct ∷ []) front_ring asked.whole nobody.0

      pub untalk_free : IsFree m
      untalk_free = record { ring = nobody.0.ring; held = nobody.0.held }

      pub untalk_room : 4 * limit + 48 ≤ spare_of q → 33 ≤ spare_of m
      untalk_room room = room_after view q m (receive_front 0 a None ++ returned 0 tct ∷ []) 33 front (omega (arith, room))

      pub nobody_made : (f : Frame) → f ≡ unt → (s : RingView M) → Whole view m (commanded 0 f) s → IsUnderHost s.guest → LendMade a limit false q s
      nobody_made f is s whole host =
          let all = whole_then view q m s (receive_front 0 a None ++ returned 0 tct ∷ []) (commanded 0 unt) front_ring front (subst (λ f. Whole view m (commanded 0 f) s) is whole) in
          refused_made view a limit q s idle low all (sym nobody.1 ∙ hands_where view q r a idle some low asked) host

      pub nobody_broke : (f : Frame) → f ≡ unt → (s : RingView M) → Broke view m (commanded 0 f) s → LendBroken a limit q s
      nobody_broke f is s broke =
          refused_broken view a limit q s idle low (broke_after view q m s (receive_front 0 a None ++ returned 0 tct ∷ []) (commanded 0 unt) front_ring front (subst (λ f. Broke view m (commanded 0 f) s) is broke))
          (λ p is back. sym (hands_where view q r a idle some low asked) ∙ nobody.1)

    -- ---- a second controller took it

    pub hands_lent : (s : RingView M) → 1 ≤ limit → HandsOver view r handed.Taken s → LentSo view a q s 1
    hands_lent s some_limit taken = ⊎_elim (λ so. so) (λ off. let none = off.off.lent_is in let clash = sym taken.1 ∙ ap is_some none in cc)
        (lent_or_broke view q r s a idle some low asked taken.0.answer taken.0.round taken.0.hands taken.0.over taken.0.controlled limit some_limit)

    pub hands_broke : (s : RingView M) → 1 ≤ limit → HandsOver view r handed.Broken s → LendBroken a limit q s
    hands_broke s some_limit broken = ⊎_elim
        (λ lost. not_handed s lost)
        (λ gone.
        ⊎_elim
        (λ so. let lent = lent_some view a q s s 1 arrival.Lost so in let clash = sym (ap is_some gone.1) ∙ lent in cc)
        (λ off. cut_broken view a limit q s idle low off off.at (sym gone.0.hands ∙ hands_where view q r a idle some low asked))
        (lent_or_broke view q r s a idle some low asked gone.0.answer gone.0.round gone.0.hands gone.0.over gone.0.controlled limit some_limit))
        broken

    -- the room that is left
    lent_long : (s : RingView M) (arrived : ℕ) → LentSo view a q s arrived → (length s.books.log ≤ length q.books.log + 5 + (arrived + arrived)) × (s.books.room ≡ q.books.room)
    lent_long s arrived so =
        let log = ap length so.polls.log ∙ length-append (q.books.log ++ handed_entries a (length (devices_of q))) so.polls.entries in
        let base = length-append q.books.log (handed_entries a (length (devices_of q))) in
        let short = so.polls.short in
        (omega (arith, log, base, short), so.kept.room)

    pub poll_has_room : (s : RingView M) → LentSo view a q s 1 → 4 * limit + 48 ≤ spare_of q → 32 + 2 * limit ≤ spare_of s
    poll_has_room s so room =
        let long = lent_long s 1 so in
        let short = long.0 in
        let same = long.1 in
        omega (arith, short, same, room)

    module _ (taken : RingView M) (hands : HandsOver view r handed.Taken taken) (some_limit : 1 ≤ limit) where
      pub begun : LentSo view a q taken 1
      begun = hands_lent taken some_limit hands

      pub taken_lent : IsLentNow view taken 1
      taken_lent = (a, q, begun)

      pub taken_room : 4 * limit + 48 ≤ spare_of q → 32 + 2 * limit ≤ spare_of taken
      taken_room room = poll_has_room taken begun room

      pub taken_broke : (s : RingView M) → PolledUntil view false taken limit s → LendBroken a limit q s
      taken_broke s polled = let off = polled a q begun in cut_broken view a limit q s idle low off off.at (sym hands.0.hands ∙ hands_where view q r a idle some low asked)

      module _ (m : RingView M) (polled : PolledUntil view true taken limit m) where
        so : LentSo view a q m limit
        so = polled a q begun

        pub back_free : IsFree (about_to_send m)
        back_free = about_controlled m so.polls.controlled

        pub back_room : 4 * limit + 48 ≤ spare_of q → 33 ≤ spare_of (about_to_send m)
        back_room room =
            let long = lent_long m limit so in
            let short = long.0 in
            let same = long.1 in
            let kept = where_short (length (devices_of m)) m.books.kept in
            let lent = where_short 0 m.books.lent in
            let log = length-append (m.books.log ++ entry_of_kept (length (devices_of m)) m.books.kept) (entry_of_kept 0 m.books.lent) in
            let front = length-append m.books.log (entry_of_kept (length (devices_of m)) m.books.kept) in
            let back : 33 ≤ spare_of (taken_back m) = omega (arith, short, same, kept, lent, log, front, room, some_limit) in
            subst (λ t. 33 ≤ spare_of t) (sym (as_taken view a limit q m idle low so)) back

        pub taken_made : (s : RingView M) → Whole view (about_to_send m) (commanded 0 ifc) s → IsUnderHost s.guest → LendMade a limit true q s
        taken_made s whole host =
            lent_made view a limit q m idle low so s whole so.at (sym hands.0.hands ∙ hands_where view q r a idle some low asked) host

        pub taken_not : (s : RingView M) → Broke view (about_to_send m) (commanded 0 ifc) s → (length s.books.log ≡ length (about_to_send m).books.log + 2 → IsUnderHost s.guest) → LendBroken a limit q s
        taken_not s broke ready = lent_not view a limit q m idle low so s broke so.at (sym hands.0.hands ∙ hands_where view q r a idle some low asked) ready
