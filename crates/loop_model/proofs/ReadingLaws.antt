-- A whole log is made of exchanges in one way alone, apart from sends of no byte, which are commands.
use Rattle.std.proofs.Common.{◌≡◌, ℕ, suc, ◌++◌, ◌+◌, ◌&&◌, ◌||◌, ◌==◌, ◌∙◌, Bool, true, false, not, if◌then◌else◌, option_and_then, option_to_list, List, [], ◌∷◌, map, flat_map, Option, Some, None, refl, sym, ap, ap₂, arith, subst, append_assoc, append-nil}
use Rattle.std.specs.List.{list_all}
use Rattle.std.proofs.lemmas.Grind.{flat_map-append}
use Rattle.std.proofs.lemmas.List.Folds.{list_all-append}
use Rattle.std.proofs.lemmas.Bool.{and_parts, and_from, agree_below_at, leb-true, not-true, both_ways}
use Rattle.il_frames.specs.declared.frame.Class.{Class}
use Rattle.il_frames.specs.declared.frame.Class.TheVariants as class
use Rattle.il_frames.specs.declared.frame.Frame.{Frame}
use Rattle.il_frames.specs.declared.entry.Entry.{Entry}
use Rattle.il_frames.specs.declared.entry.Outcome.{Outcome}
use Rattle.il_frames.specs.declared.entry.Outcome.TheVariants as outcome
use Rattle.il_frames.specs.Frames.{framed, class_of, same_class, is_data, is_data_class, same_but_service}
use Rattle.il_frames.specs.Messages.{message_of}
use Rattle.il_device.specs.Takes.{eto}
use Rattle.loop_model.specs.Loops.{Loop, host_loop}
use Rattle.il_frames.specs.NamedFrames.{entry, unl, unt, lad, tad, ddl, ddt, nrd, aad}
use Rattle.loop_model.specs.Exchanges.{Echo, Exchange, Command, Address, Send, Receive, Identify, Start, Sda, Sst, Sdi, Sai, Answer, NotTaken, ToItsEnd, Stopped, start_frame, answer_entries, returned, commanded, echoed, numbered, entries_of, is_host_echo, is_echo, is_number, is_address, is_answer, is_some_data, is_talk_address, is_exchange, Piece, Whole, Cut, piece_entries, is_piece, are_whole, IsWhole}
use Rattle.loop_model.specs.Units.{RecordUnit, sent_bytes, is_transfer, told_status, sought, unit_of, unit_after_seek, units_of}
use Rattle.loop_model.proofs.RoleLaws.{gives_no_talk, lad_no_talk, ddl_no_talk}

-- ---- equal lists and entries

cons_parts : {A : Type 0} {x y : A} {xs ys : List A} → (x ∷ xs) ≡ (y ∷ ys) → (x ≡ y) × (xs ≡ ys)
cons_parts e = (cc, cc)

-- two entries that came back are equal in their frames
same_frames : {s t : ℕ} {f g : Frame} {o q : Outcome} → entry s f o ≡ entry t g q → f ≡ g
same_frames e = ap (λ (x : Entry). x.frame) e

module _ (size drive : ℕ) where
  abbrev pub ring : Loop
  ring = host_loop size drive

  -- the exchanges of a log, whole and none a send of no byte
  abbrev pub is_plain : Exchange → Bool
  is_plain (Send a number []) = false
  is_plain x = true

  abbrev pub is_sure : Exchange → Bool
  is_sure x = is_exchange ring x && is_plain x

  abbrev pub all_entries : List Exchange → List Entry
  all_entries xs = flat_map (entries_of 0) xs

  -- no exchange begins by a data frame
  no_front_data : (xs : List Exchange) (f : Frame) (s : ℕ) (o : Outcome) (rest : List Entry) → list_all is_sure xs ≡ true → is_data_class f.class ≡ true → all_entries xs ≡ entry s f o ∷ rest → ⊥
  no_front_data [] f s o rest sure data_frame e = cc
  no_front_data (Command g ∷ xs) f s o rest sure data_frame e =
      let legal = (and_parts (is_sure (Command g)) (list_all is_sure xs) sure).0 in
      let cmd = (and_parts (same_class (class_of g) class.Cmd) _ ((and_parts (is_exchange ring (Command g)) true legal).0)).0 in
      apart g.class (subst (λ (h : Frame). is_data_class h.class ≡ true) (sym (same_frames ((cons_parts e).0))) data_frame) cmd
    where
      apart : (k : Class) → is_data_class k ≡ true → same_class k class.Cmd ≡ true → ⊥
      apart class.Cmd d c = cc
      apart k d c = cc
  no_front_data (Address k ∷ xs) f s o rest sure data_frame e = let same = same_frames ((cons_parts e).0) in cc
  no_front_data (Send a number ds ∷ xs) f s o rest sure data_frame e = let same = same_frames ((cons_parts e).0) in cc
  no_front_data (Receive a number start answer ∷ xs) f s o rest sure data_frame e = let same = same_frames ((cons_parts e).0) in cc
  no_front_data (Identify g ∷ xs) f s o rest sure data_frame e = let same = same_frames ((cons_parts e).0) in cc

  -- exchanges whose entries begin by a command other than UNL begin by that command
  front_command : (xs : List Exchange) (f : Frame) (rest : List Entry) → list_all is_sure xs ≡ true → same_class f.class class.Cmd ≡ true → (f ≡ unl → ⊥) → all_entries xs ≡ commanded 0 f ++ rest → (ys : List Exchange) × (xs ≡ Command f ∷ ys) × (all_entries ys ≡ rest)
  front_command [] f rest sure cmd other e = cc
  front_command (Command g ∷ xs) f rest sure cmd other e =
      let first = cons_parts e in
      let same = same_frames first.0 in
      (xs, ap (λ (h : Frame). Command h ∷ xs) same, (cons_parts first.1).1)
  front_command (Address k ∷ xs) f rest sure cmd other e =
      let same = same_frames ((cons_parts e).0) in
      absurd (both_ways _ refl (subst (λ (h : Frame). same_class h.class class.Cmd ≡ true) (sym same) cmd))
  front_command (Send a number ds ∷ xs) f rest sure cmd other e = absurd (other (sym (same_frames ((cons_parts e).0))))
  front_command (Receive a number start answer ∷ xs) f rest sure cmd other e = absurd (other (sym (same_frames ((cons_parts e).0))))
  front_command (Identify g ∷ xs) f rest sure cmd other e =
      let same = same_frames ((cons_parts e).0) in
      absurd (both_ways _ refl (subst (λ (h : Frame). same_class h.class class.Cmd ≡ true) (sym same) cmd))

  sure_rest : (xs ys : List Exchange) (x : Exchange) → xs ≡ x ∷ ys → list_all is_sure xs ≡ true → (is_sure x ≡ true) × (list_all is_sure ys ≡ true)
  sure_rest xs ys x e sure = and_parts (is_sure x) (list_all is_sure ys) (sym (ap (list_all is_sure) e) ∙ sure)

  lad_not_unl : (a : ℕ) → is_address a ≡ true → lad a ≡ unl → ⊥
  lad_not_unl a low e = let small = leb-true a 30 low in let same : 0x20 + a ≡ 0x3F = ap (λ (f : Frame). f.byte) e in omega arith

  tad_not_unl : (a : ℕ) → tad a ≡ unl → ⊥
  tad_not_unl a e = let same : 0x40 + a ≡ 0x3F = ap (λ (f : Frame). f.byte) e in omega arith

  ddl_not_unl : (n : ℕ) → ddl n ≡ unl → ⊥
  ddl_not_unl n e = let same : 0xA0 + n ≡ 0x3F = ap (λ (f : Frame). f.byte) e in omega arith

  tad_talks : (a : ℕ) → is_address a ≡ true → is_talk_address (message_of (tad a)) ≡ true
  tad_talks a low = agree_below_at (λ b. is_talk_address (message_of (tad b))) (λ b. true) 31 a refl (let small = leb-true a 30 low in omega arith)

  host_data : (d : Echo) → is_host_echo d ≡ true → is_data_class d.sent.class ≡ true
  host_data d e = (and_parts (is_data d.sent) (same_but_service d.sent d.back) ((and_parts (same_class (class_of d.sent) class.Dab) (is_echo d) e).1)).0

  -- after UNL no exchanges go on as the rest of a send, or of a receive
  no_send_rest : (xs : List Exchange) (a : ℕ) (number : Option ℕ) (d : Echo) (rest : List Entry) → list_all is_sure xs ≡ true → is_address a ≡ true → is_host_echo d ≡ true → all_entries xs ≡ commanded 0 (lad a) ++ (numbered 0 ddl number ++ echoed 0 d ∷ rest) → ⊥
  no_send_rest xs a None d rest sure low echo e =
      let front = front_command xs (lad a) _ sure refl (lad_not_unl a low) e in
      no_front_data front.0 d.sent 0 (outcome.Back d.back) rest ((sure_rest xs front.0 (Command (lad a)) front.1 sure).1) (host_data d echo) front.2
  no_send_rest xs a (Some n) d rest sure low echo e =
      let front = front_command xs (lad a) _ sure refl (lad_not_unl a low) e in
      let sure_1 = (sure_rest xs front.0 (Command (lad a)) front.1 sure).1 in
      let next = front_command front.0 (ddl n) _ sure_1 refl (ddl_not_unl n) front.2 in
      no_front_data next.0 d.sent 0 (outcome.Back d.back) rest ((sure_rest front.0 next.0 (Command (ddl n)) next.1 sure_1).1) (host_data d echo) next.2

  no_receive_rest : (xs : List Exchange) (a : ℕ) (rest : List Entry) → list_all is_sure xs ≡ true → is_address a ≡ true → all_entries xs ≡ commanded 0 (tad a) ++ rest → ⊥
  no_receive_rest xs a rest sure low e =
      let front = front_command xs (tad a) rest sure refl (tad_not_unl a) e in
      let legal = (sure_rest xs front.0 (Command (tad a)) front.1 sure).0 in
      let silent = (and_parts true (not (is_talk_address (message_of (tad a)))) ((and_parts (is_exchange ring (Command (tad a))) true legal).0)).1 in
      both_ways _ (not-true _ silent) (tad_talks a low)

  -- ---- data

  same_echo : (p q : ℕ) (d e : Echo) → echoed p d ≡ echoed q e → d ≡ e
  same_echo p q d e x =
      let back = back_of (ap (λ (y : Entry). y.outcome) x) in
      ap₂ (λ (f g : Frame). record { sent = f; back = g }) (same_frames x) back
    where
      back_of : outcome.Back d.back ≡ outcome.Back e.back → d.back ≡ e.back
      back_of b = cc

  cons_same : {A : Type 0} {x y : A} {xs ys : List A} → x ≡ y → xs ≡ ys → (x ∷ xs) ≡ (y ∷ ys)
  cons_same e f = ap₂ (λ z zs. z ∷ zs) e f

  -- the data frames of two sends are equal, and so is what follows
  host_lists : (ds es : List Echo) (xs ys : List Exchange) → list_all is_host_echo ds ≡ true → list_all is_host_echo es ≡ true → list_all is_sure xs ≡ true → list_all is_sure ys ≡ true → (map (echoed 0) ds ++ all_entries xs) ≡ (map (echoed 0) es ++ all_entries ys) → (ds ≡ es) × (all_entries xs ≡ all_entries ys)
  host_lists [] [] xs ys hd he sx sy e = (refl, e)
  host_lists [] (d ∷ es) xs ys hd he sx sy e =
      absurd (no_front_data xs d.sent 0 (outcome.Back d.back) _ sx (host_data d ((and_parts (is_host_echo d) (list_all is_host_echo es) he).0)) e)
  host_lists (d ∷ ds) [] xs ys hd he sx sy e =
      absurd (no_front_data ys d.sent 0 (outcome.Back d.back) _ sy (host_data d ((and_parts (is_host_echo d) (list_all is_host_echo ds) hd).0)) (sym e))
  host_lists (d ∷ ds) (f ∷ es) xs ys hd he sx sy e =
      let parts = cons_parts e in
      let rest = host_lists ds es xs ys ((and_parts (is_host_echo d) (list_all is_host_echo ds) hd).1) ((and_parts (is_host_echo f) (list_all is_host_echo es) he).1) sx sy parts.1 in
      (cons_same (same_echo 0 0 d f parts.0) rest.0, rest.1)

  -- the data frames of two talkers up to another frame are equal, and so is what follows
  talk_lists : (p q : ℕ) (ds es : List Echo) (t u : Entry) (ts us : List Entry) → list_all is_echo ds ≡ true → list_all is_echo es ≡ true → is_data_class t.frame.class ≡ false → is_data_class u.frame.class ≡ false → (map (echoed p) ds ++ t ∷ ts) ≡ (map (echoed q) es ++ u ∷ us) → (ds ≡ es) × (t ≡ u) × (ts ≡ us)
  talk_lists p q [] [] t u ts us hd he nt nu e = let parts = cons_parts e in (refl, parts.0, parts.1)
  talk_lists p q [] (d ∷ es) t u ts us hd he nt nu e =
      let sent = (and_parts (is_data d.sent) (same_but_service d.sent d.back) ((and_parts (is_echo d) (list_all is_echo es) he).0)).0 in
      let same = ap (λ (x : Entry). is_data_class x.frame.class) ((cons_parts e).0) in
      absurd (both_ways _ (sym same ∙ nt) sent)
  talk_lists p q (d ∷ ds) [] t u ts us hd he nt nu e =
      let sent = (and_parts (is_data d.sent) (same_but_service d.sent d.back) ((and_parts (is_echo d) (list_all is_echo ds) hd).0)).0 in
      let same = ap (λ (x : Entry). is_data_class x.frame.class) ((cons_parts e).0) in
      absurd (both_ways _ (same ∙ nu) sent)
  talk_lists p q (d ∷ ds) (f ∷ es) t u ts us hd he nt nu e =
      let parts = cons_parts e in
      let rest = talk_lists p q ds es t u ts us ((and_parts (is_echo d) (list_all is_echo ds) hd).1) ((and_parts (is_echo f) (list_all is_echo es) he).1) nt nu parts.1 in
      (cons_same (same_echo p q d f parts.0) rest.0, rest.1, rest.2)

  same_ddl : (m n : ℕ) → ddl m ≡ ddl n → m ≡ n
  same_ddl m n e = let same : 0xA0 + m ≡ 0xA0 + n = ap (λ (f : Frame). f.byte) e in omega arith

  same_ddt : (m n : ℕ) → ddt m ≡ ddt n → m ≡ n
  same_ddt m n e = let same : 0xC0 + m ≡ 0xC0 + n = ap (λ (f : Frame). f.byte) e in omega arith

  same_lad : (m n : ℕ) → lad m ≡ lad n → m ≡ n
  same_lad m n e = let same : 0x20 + m ≡ 0x20 + n = ap (λ (f : Frame). f.byte) e in omega arith

  same_tad : (m n : ℕ) → tad m ≡ tad n → m ≡ n
  same_tad m n e = let same : 0x40 + m ≡ 0x40 + n = ap (λ (f : Frame). f.byte) e in omega arith

  lad_not_tad : (a b : ℕ) → is_address a ≡ true → lad a ≡ tad b → ⊥
  lad_not_tad a b low e = let small = leb-true a 30 low in let same : 0x20 + a ≡ 0x40 + b = ap (λ (f : Frame). f.byte) e in omega arith

  data_not_command : (d : Echo) (f : Frame) → is_host_echo d ≡ true → is_data_class f.class ≡ false → d.sent ≡ f → ⊥
  data_not_command d f echo other e = both_ways _ (ap (λ (g : Frame). is_data_class g.class) e ∙ other) (host_data d echo)

  -- two sends are equal after their addresses, and so is what follows
  send_rests : (m n : Option ℕ) (d e : Echo) (ds es : List Echo) (xs ys : List Exchange) → list_all is_host_echo (d ∷ ds) ≡ true → list_all is_host_echo (e ∷ es) ≡ true → list_all is_sure xs ≡ true → list_all is_sure ys ≡ true → (numbered 0 ddl m ++ (map (echoed 0) (d ∷ ds) ++ all_entries xs)) ≡ (numbered 0 ddl n ++ (map (echoed 0) (e ∷ es) ++ all_entries ys)) → (m ≡ n) × ((d ∷ ds) ≡ (e ∷ es)) × (all_entries xs ≡ all_entries ys)
  send_rests None None d e ds es xs ys hd he sx sy eq = let rest = host_lists (d ∷ ds) (e ∷ es) xs ys hd he sx sy eq in (refl, rest.0, rest.1)
  send_rests (Some m) (Some n) d e ds es xs ys hd he sx sy eq =
      let parts = cons_parts eq in
      let rest = host_lists (d ∷ ds) (e ∷ es) xs ys hd he sx sy ((cons_parts parts.1).1) in
      (ap Some (same_ddl m n (same_frames parts.0)), rest.0, rest.1)
  send_rests None (Some n) d e ds es xs ys hd he sx sy eq =
      absurd (data_not_command d (ddl n) ((and_parts (is_host_echo d) (list_all is_host_echo ds) hd).0) refl (same_frames ((cons_parts eq).0)))
  send_rests (Some m) None d e ds es xs ys hd he sx sy eq =
      absurd (data_not_command e (ddl m) ((and_parts (is_host_echo e) (list_all is_host_echo es) he).0) refl (sym (same_frames ((cons_parts eq).0))))

  -- ---- receives

  start_is_ready : (s : Start) → (start_frame s).class ≡ class.Rdy
  start_is_ready Sda = refl
  start_is_ready Sst = refl
  start_is_ready Sdi = refl
  start_is_ready Sai = refl

  start_not_command : (s : Start) (f : Frame) → same_class f.class class.Cmd ≡ true → start_frame s ≡ f → ⊥
  start_not_command s f cmd e =
      let ready_class = sym (ap (λ (g : Frame). g.class) e) ∙ start_is_ready s in
      both_ways _ (ap (λ (k : Class). same_class k class.Cmd) ready_class) cmd

  same_start : (s t : Start) → start_frame s ≡ start_frame t → s ≡ t
  same_start Sda Sda e = refl
  same_start Sst Sst e = refl
  same_start Sdi Sdi e = refl
  same_start Sai Sai e = refl
  same_start s t e = let same = ap (λ (f : Frame). f.byte) e in absurd (omega (arith, same))

  -- what came of a start message begins with it
  answer_head : (f : Frame) (answer : Answer) (rest : List Entry) → (o : Outcome) × (more : List Entry) × ((answer_entries 0 f answer ++ rest) ≡ entry 0 f o ∷ more)
  answer_head f NotTaken rest = (outcome.Back f, rest, refl)
  answer_head f (ToItsEnd p ds) rest = (outcome.Taken p, (map (echoed p) ds ++ entry p eto (outcome.Taken 0) ∷ []) ++ rest, refl)
  answer_head f (Stopped p ds last) rest = (outcome.Taken p, (map (echoed p) ds ++ returned 0 nrd ∷ echoed p last ∷ entry p eto (outcome.Taken 0) ∷ []) ++ rest, refl)

  -- the numbers of two receives are equal, and so is what follows
  receive_numbers : (m n : Option ℕ) (s t : Start) (a b : Answer) (ts us : List Entry) → (numbered 0 ddt m ++ (answer_entries 0 (start_frame s) a ++ ts)) ≡ (numbered 0 ddt n ++ (answer_entries 0 (start_frame t) b ++ us)) → (m ≡ n) × ((answer_entries 0 (start_frame s) a ++ ts) ≡ (answer_entries 0 (start_frame t) b ++ us))
  receive_numbers None None s t a b ts us e = (refl, e)
  receive_numbers (Some m) (Some n) s t a b ts us e =
      let parts = cons_parts e in
      (ap Some (same_ddt m n (same_frames parts.0)), (cons_parts parts.1).1)
  receive_numbers None (Some n) s t a b ts us e =
      let head = answer_head (start_frame s) a ts in
      absurd (start_not_command s (ddt n) refl (same_frames ((cons_parts (sym head.2 ∙ e)).0)))
  receive_numbers (Some m) None s t a b ts us e =
      let head = answer_head (start_frame t) b us in
      absurd (start_not_command t (ddt m) refl (same_frames ((cons_parts (sym head.2 ∙ sym e)).0)))

  same_taken : (p q : ℕ) → outcome.Taken p ≡ outcome.Taken q → p ≡ q
  same_taken p q e = cc

  same_stopped : (p q : ℕ) (ds es : List Echo) (d e : Echo) → p ≡ q → ds ≡ es → d ≡ e → Stopped p ds d ≡ Stopped q es e
  same_stopped p q ds es d e a b c = cc

  -- the answers of two receives are equal, and so is what follows
  same_answers : (s t : Start) (a b : Answer) (ts us : List Entry) → is_answer 0 a ≡ true → is_answer 0 b ≡ true → (answer_entries 0 (start_frame s) a ++ ts) ≡ (answer_entries 0 (start_frame t) b ++ us) → (s ≡ t) × (a ≡ b) × (ts ≡ us)
  same_answers s t NotTaken NotTaken ts us la lb e =
      let parts = cons_parts e in (same_start s t (same_frames parts.0), refl, parts.1)
  same_answers s t (ToItsEnd p ds) (ToItsEnd q es) ts us la lb e =
      let parts = cons_parts e in
      let hd = (and_parts (is_some_data ds) (list_all is_echo ds) ((and_parts (not (p == 0)) _ la).1)).1 in
      let he = (and_parts (is_some_data es) (list_all is_echo es) ((and_parts (not (q == 0)) _ lb).1)).1 in
      let spread = sym (append_assoc (map (echoed p) ds) (entry p eto (outcome.Taken 0) ∷ []) ts) ∙ (parts.1 ∙ append_assoc (map (echoed q) es) (entry q eto (outcome.Taken 0) ∷ []) us) in
      let lists = talk_lists p q ds es (entry p eto (outcome.Taken 0)) (entry q eto (outcome.Taken 0)) ts us hd he refl refl spread in
      (same_start s t (same_frames parts.0), ap₂ ToItsEnd (same_taken p q (ap (λ (x : Entry). x.outcome) parts.0)) lists.0, lists.2)
  same_answers s t (Stopped p ds d) (Stopped q es f) ts us la lb e =
      let parts = cons_parts e in
      let hd = (and_parts (list_all is_echo ds) (is_echo d) ((and_parts (not (p == 0)) _ la).1)).0 in
      let he = (and_parts (list_all is_echo es) (is_echo f) ((and_parts (not (q == 0)) _ lb).1)).0 in
      let spread = sym (append_assoc (map (echoed p) ds) (returned 0 nrd ∷ echoed p d ∷ entry p eto (outcome.Taken 0) ∷ []) ts) ∙ (parts.1 ∙ append_assoc (map (echoed q) es) (returned 0 nrd ∷ echoed q f ∷ entry q eto (outcome.Taken 0) ∷ []) us) in
      let lists = talk_lists p q ds es (returned 0 nrd) (returned 0 nrd) (echoed p d ∷ entry p eto (outcome.Taken 0) ∷ ts) (echoed q f ∷ entry q eto (outcome.Taken 0) ∷ us) hd he refl refl spread in
      let last = cons_parts lists.2 in
      let party = same_taken p q (ap (λ (x : Entry). x.outcome) parts.0) in
      (same_start s t (same_frames parts.0), same_stopped p q ds es d f party lists.0 (same_echo p q d f last.0), (cons_parts last.1).1)
  same_answers s t (ToItsEnd p ds) (Stopped q es f) ts us la lb e =
      let parts = cons_parts e in
      let hd = (and_parts (is_some_data ds) (list_all is_echo ds) ((and_parts (not (p == 0)) _ la).1)).1 in
      let he = (and_parts (list_all is_echo es) (is_echo f) ((and_parts (not (q == 0)) _ lb).1)).0 in
      let spread = sym (append_assoc (map (echoed p) ds) (entry p eto (outcome.Taken 0) ∷ []) ts) ∙ (parts.1 ∙ append_assoc (map (echoed q) es) (returned 0 nrd ∷ echoed q f ∷ entry q eto (outcome.Taken 0) ∷ []) us) in
      let lists = talk_lists p q ds es (entry p eto (outcome.Taken 0)) (returned 0 nrd) ts (echoed q f ∷ entry q eto (outcome.Taken 0) ∷ us) hd he refl refl spread in
      let ended = ap (λ (x : Entry). x.outcome) lists.1 in
      cc
  same_answers s t (Stopped p ds d) (ToItsEnd q es) ts us la lb e =
      let parts = cons_parts e in
      let hd = (and_parts (list_all is_echo ds) (is_echo d) ((and_parts (not (p == 0)) _ la).1)).0 in
      let he = (and_parts (is_some_data es) (list_all is_echo es) ((and_parts (not (q == 0)) _ lb).1)).1 in
      let spread = sym (append_assoc (map (echoed p) ds) (returned 0 nrd ∷ echoed p d ∷ entry p eto (outcome.Taken 0) ∷ []) ts) ∙ (parts.1 ∙ append_assoc (map (echoed q) es) (entry q eto (outcome.Taken 0) ∷ []) us) in
      let lists = talk_lists p q ds es (returned 0 nrd) (entry q eto (outcome.Taken 0)) (echoed p d ∷ entry p eto (outcome.Taken 0) ∷ ts) us hd he refl refl spread in
      let ended = ap (λ (x : Entry). x.outcome) lists.1 in
      cc
  same_answers s t NotTaken (ToItsEnd q es) ts us la lb e = let ended = ap (λ (x : Entry). x.outcome) ((cons_parts e).0) in cc
  same_answers s t NotTaken (Stopped q es f) ts us la lb e = let ended = ap (λ (x : Entry). x.outcome) ((cons_parts e).0) in cc
  same_answers s t (ToItsEnd p ds) NotTaken ts us la lb e = let ended = ap (λ (x : Entry). x.outcome) ((cons_parts e).0) in cc
  same_answers s t (Stopped p ds d) NotTaken ts us la lb e = let ended = ap (λ (x : Entry). x.outcome) ((cons_parts e).0) in cc

  -- ---- exchanges

  -- the entries of a send and of a receive, and what follows, from the number on
  send_spread : (a : ℕ) (number : Option ℕ) (ds : List Echo) (rest : List Entry) → (entries_of 0 (Send a number ds) ++ rest) ≡ (commanded 0 unl ++ (commanded 0 (lad a) ++ (numbered 0 ddl number ++ (map (echoed 0) ds ++ rest))))
  send_spread a number ds rest = ap (λ (es : List Entry). commanded 0 unl ++ (commanded 0 (lad a) ++ es)) (append_assoc (numbered 0 ddl number) (map (echoed 0) ds) rest)

  receive_spread : (a : ℕ) (number : Option ℕ) (s : Start) (b : Answer) (rest : List Entry) → (entries_of 0 (Receive a number s b) ++ rest) ≡ (commanded 0 unl ++ (commanded 0 (tad a) ++ (numbered 0 ddt number ++ (answer_entries 0 (start_frame s) b ++ (commanded 0 unt ++ rest)))))
  receive_spread a number s b rest =
      ap (λ (es : List Entry). commanded 0 unl ++ (commanded 0 (tad a) ++ es))
      (append_assoc (numbered 0 ddt number ++ answer_entries 0 (start_frame s) b) (commanded 0 unt) rest ∙ append_assoc (numbered 0 ddt number) (answer_entries 0 (start_frame s) b) (commanded 0 unt ++ rest))

  -- what follows the first four entries
  after_four : {e f g h i j k l : Entry} {xs ys : List Entry} → (e ∷ f ∷ g ∷ h ∷ xs) ≡ (i ∷ j ∷ k ∷ l ∷ ys) → (g ≡ k) × (xs ≡ ys)
  after_four e = let third = (cons_parts ((cons_parts e).1)).1 in ((cons_parts third).0, (cons_parts ((cons_parts third).1)).1)

  -- what follows the first two
  after_two : {e f i j : Entry} {xs ys : List Entry} → (e ∷ f ∷ xs) ≡ (i ∷ j ∷ ys) → (xs ≡ ys)
  after_two e = (cons_parts ((cons_parts e).1)).1

  legal_of : (x : Exchange) (xs : List Exchange) → list_all is_sure (x ∷ xs) ≡ true → is_exchange ring x ≡ true
  legal_of x xs sure = (and_parts (is_exchange ring x) (is_plain x) ((and_parts (is_sure x) (list_all is_sure xs) sure).0)).0

  rest_of : (x : Exchange) (xs : List Exchange) → list_all is_sure (x ∷ xs) ≡ true → list_all is_sure xs ≡ true
  rest_of x xs sure = (and_parts (is_sure x) (list_all is_sure xs) sure).1

  -- a send that is no sure exchange, having no byte
  no_empty_send : (a : ℕ) (n : Option ℕ) (xs : List Exchange) → list_all is_sure (Send a n [] ∷ xs) ≡ true → ⊥
  no_empty_send a n xs sure =
      let plain = (and_parts (is_exchange ring (Send a n [])) (is_plain (Send a n [])) ((and_parts (is_sure (Send a n [])) (list_all is_sure xs) sure).0)).1 in cc

  -- the parts of legal sends and receives
  send_parts : (a : ℕ) (n : Option ℕ) (ds : List Echo) → is_exchange ring (Send a n ds) ≡ true → (is_address a ≡ true) × (list_all is_host_echo ds ≡ true)
  send_parts a n ds e =
      let parts = and_parts (is_address a) (is_number n && list_all is_host_echo ds) e in
      (parts.0, (and_parts (is_number n) (list_all is_host_echo ds) parts.1).1)

  receive_parts : (a : ℕ) (n : Option ℕ) (s : Start) (b : Answer) → is_exchange ring (Receive a n s b) ≡ true → (is_address a ≡ true) × (is_answer 0 b ≡ true)
  receive_parts a n s b e =
      let parts = and_parts (is_address a) (is_number n && is_answer 0 b) e in
      (parts.0, (and_parts (is_number n) (is_answer 0 b) parts.1).1)

  command_not : (f g : Frame) → is_exchange ring (Command f) ≡ true → same_class g.class class.Cmd ≡ false → f ≡ g → ⊥
  command_not f g legal other same =
      let cmd = (and_parts (same_class f.class class.Cmd) (not (is_talk_address (message_of f))) legal).0 in
      both_ways _ (ap (λ (h : Frame). same_class h.class class.Cmd) same ∙ other) cmd

  command_not_send : (f : Frame) (a : ℕ) (n : Option ℕ) (d : Echo) (ds : List Echo) (xs ys : List Exchange) → list_all is_sure xs ≡ true → is_exchange ring (Send a n (d ∷ ds)) ≡ true → (commanded 0 f ++ all_entries xs) ≡ (entries_of 0 (Send a n (d ∷ ds)) ++ all_entries ys) → ⊥
  command_not_send f a n d ds xs ys sx legal e =
      let parts = send_parts a n (d ∷ ds) legal in
      let spread = e ∙ send_spread a n (d ∷ ds) (all_entries ys) in
      no_send_rest xs a n d (map (echoed 0) ds ++ all_entries ys) sx parts.0 ((and_parts (is_host_echo d) (list_all is_host_echo ds) parts.1).0) (after_two spread)

  command_not_receive : (f : Frame) (a : ℕ) (n : Option ℕ) (s : Start) (b : Answer) (xs ys : List Exchange) → list_all is_sure xs ≡ true → is_exchange ring (Receive a n s b) ≡ true → (commanded 0 f ++ all_entries xs) ≡ (entries_of 0 (Receive a n s b) ++ all_entries ys) → ⊥
  command_not_receive f a n s b xs ys sx legal e =
      let parts = receive_parts a n s b legal in
      let spread = e ∙ receive_spread a n s b (all_entries ys) in
      no_receive_rest xs a (numbered 0 ddt n ++ (answer_entries 0 (start_frame s) b ++ (commanded 0 unt ++ all_entries ys))) sx parts.0 (after_two spread)

  send_not_receive : (a b : ℕ) (n m : Option ℕ) (ds : List Echo) (s : Start) (c : Answer) (xs ys : List Exchange) → is_exchange ring (Send a n ds) ≡ true → (entries_of 0 (Send a n ds) ++ all_entries xs) ≡ (entries_of 0 (Receive b m s c) ++ all_entries ys) → ⊥
  send_not_receive a b n m ds s c xs ys legal e = lad_not_tad a b ((send_parts a n ds legal).0) (same_frames ((after_four e).0))

  same_sends : (a b : ℕ) (n m : Option ℕ) (d f : Echo) (ds fs : List Echo) (xs ys : List Exchange) → list_all is_sure xs ≡ true → list_all is_sure ys ≡ true → is_exchange ring (Send a n (d ∷ ds)) ≡ true → is_exchange ring (Send b m (f ∷ fs)) ≡ true → (entries_of 0 (Send a n (d ∷ ds)) ++ all_entries xs) ≡ (entries_of 0 (Send b m (f ∷ fs)) ++ all_entries ys) → (Send a n (d ∷ ds) ≡ Send b m (f ∷ fs)) × (all_entries xs ≡ all_entries ys)
  same_sends a b n m d f ds fs xs ys sx sy la lb e =
      let spread = sym (send_spread a n (d ∷ ds) (all_entries xs)) ∙ (e ∙ send_spread b m (f ∷ fs) (all_entries ys)) in
      let four = after_four spread in
      let rests = send_rests n m d f ds fs xs ys ((send_parts a n (d ∷ ds) la).1) ((send_parts b m (f ∷ fs) lb).1) sx sy four.1 in
      let address = same_lad a b (same_frames four.0) in
      let number = rests.0 in
      let bytes = rests.1 in
      (joined address number bytes, rests.2)
    where
      joined : a ≡ b → n ≡ m → (d ∷ ds) ≡ (f ∷ fs) → Send a n (d ∷ ds) ≡ Send b m (f ∷ fs)
      joined p q r = cc

  same_receives : (a b : ℕ) (n m : Option ℕ) (s t : Start) (c g : Answer) (xs ys : List Exchange) → is_exchange ring (Receive a n s c) ≡ true → is_exchange ring (Receive b m t g) ≡ true → (entries_of 0 (Receive a n s c) ++ all_entries xs) ≡ (entries_of 0 (Receive b m t g) ++ all_entries ys) → (Receive a n s c ≡ Receive b m t g) × (all_entries xs ≡ all_entries ys)
  same_receives a b n m s t c g xs ys la lb e =
      let spread = sym (receive_spread a n s c (all_entries xs)) ∙ (e ∙ receive_spread b m t g (all_entries ys)) in
      let four = after_four spread in
      let numbers = receive_numbers n m s t c g (commanded 0 unt ++ all_entries xs) (commanded 0 unt ++ all_entries ys) four.1 in
      let answers = same_answers s t c g (commanded 0 unt ++ all_entries xs) (commanded 0 unt ++ all_entries ys) ((receive_parts a n s c la).1) ((receive_parts b m t g lb).1) numbers.1 in
      (joined (same_tad a b (same_frames four.0)) numbers.0 answers.0 answers.1, after_two answers.2)
    where
      joined : a ≡ b → n ≡ m → s ≡ t → c ≡ g → Receive a n s c ≡ Receive b m t g
      joined p q r u = cc

  same_number_of_devices : (k l : ℕ) → aad (suc k) ≡ aad (suc l) → k ≡ l
  same_number_of_devices k l e = let same : 0x80 + suc k ≡ 0x80 + suc l = ap (λ (f : Frame). f.byte) e in omega arith

  -- two exchanges with the same entries, each with what follows it, are one
  same_exchange : (x y : Exchange) (xs ys : List Exchange) → list_all is_sure (x ∷ xs) ≡ true → list_all is_sure (y ∷ ys) ≡ true → all_entries (x ∷ xs) ≡ all_entries (y ∷ ys) → (x ≡ y) × (all_entries xs ≡ all_entries ys)
  same_exchange (Command f) (Command g) xs ys sx sy e = (ap Command (same_frames ((cons_parts e).0)), after_two e)
  same_exchange (Command f) (Address k) xs ys sx sy e = absurd (command_not f (aad 1) (legal_of (Command f) xs sx) refl (same_frames ((cons_parts e).0)))
  same_exchange (Command f) (Send a n []) xs ys sx sy e = absurd (no_empty_send a n ys sy)
  same_exchange (Command f) (Send a n (d ∷ ds)) xs ys sx sy e =
      absurd (command_not_send f a n d ds xs ys (rest_of (Command f) xs sx) (legal_of (Send a n (d ∷ ds)) ys sy) e)
  same_exchange (Command f) (Receive a n s b) xs ys sx sy e =
      absurd (command_not_receive f a n s b xs ys (rest_of (Command f) xs sx) (legal_of (Receive a n s b) ys sy) e)
  same_exchange (Command f) (Identify g) xs ys sx sy e = absurd (command_not f (framed class.Idy 0) (legal_of (Command f) xs sx) refl (same_frames ((cons_parts e).0)))
  same_exchange (Send a n []) y xs ys sx sy e = absurd (no_empty_send a n xs sx)
  same_exchange (Send a n (d ∷ ds)) (Command f) xs ys sx sy e =
      absurd (command_not_send f a n d ds ys xs (rest_of (Command f) ys sy) (legal_of (Send a n (d ∷ ds)) xs sx) (sym e))
  same_exchange (Send a n (d ∷ ds)) (Send b m []) xs ys sx sy e = absurd (no_empty_send b m ys sy)
  same_exchange (Send a n (d ∷ ds)) (Send b m (f ∷ fs)) xs ys sx sy e =
      same_sends a b n m d f ds fs xs ys (rest_of (Send a n (d ∷ ds)) xs sx) (rest_of (Send b m (f ∷ fs)) ys sy) (legal_of (Send a n (d ∷ ds)) xs sx) (legal_of (Send b m (f ∷ fs)) ys sy) e
  same_exchange (Send a n (d ∷ ds)) (Receive b m s c) xs ys sx sy e =
      absurd (send_not_receive a b n m (d ∷ ds) s c xs ys (legal_of (Send a n (d ∷ ds)) xs sx) e)
  same_exchange (Receive a n s b) (Command f) xs ys sx sy e =
      absurd (command_not_receive f a n s b ys xs (rest_of (Command f) ys sy) (legal_of (Receive a n s b) xs sx) (sym e))
  same_exchange (Receive a n s b) (Send c m ds) xs ys sx sy e =
      absurd (send_not_receive c a m n ds s b ys xs (legal_of (Send c m ds) ys sy) (sym e))
  same_exchange (Receive a n s b) (Receive c m t g) xs ys sx sy e =
      same_receives a c n m s t b g xs ys (legal_of (Receive a n s b) xs sx) (legal_of (Receive c m t g) ys sy) e
  same_exchange (Address k) (Command f) xs ys sx sy e = absurd (command_not f (aad 1) (legal_of (Command f) ys sy) refl (sym (same_frames ((cons_parts e).0))))
  same_exchange (Address k) (Address l) xs ys sx sy e =
      let parts = cons_parts e in
      (ap Address (same_number_of_devices k l (back_of (ap (λ (x : Entry). x.outcome) parts.0))), parts.1)
    where
      back_of : outcome.Back (aad (suc k)) ≡ outcome.Back (aad (suc l)) → aad (suc k) ≡ aad (suc l)
      back_of b = cc
  same_exchange (Identify f) (Command g) xs ys sx sy e = absurd (command_not g (framed class.Idy 0) (legal_of (Command g) ys sy) refl (sym (same_frames ((cons_parts e).0))))
  same_exchange (Identify f) (Identify g) xs ys sx sy e =
      let parts = cons_parts e in
      (ap Identify (back_of (ap (λ (x : Entry). x.outcome) parts.0)), parts.1)
    where
      back_of : outcome.Back f ≡ outcome.Back g → f ≡ g
      back_of b = cc
  same_exchange x y xs ys sx sy e = let same = ap (λ (f : Frame). f.class) (same_frames ((cons_parts e).0)) in absurd (cc)

  some_entries : (y : Exchange) (ys : List Exchange) → all_entries (y ∷ ys) ≡ [] → ⊥
  some_entries (Command f) ys e = cc
  some_entries (Address k) ys e = cc
  some_entries (Send a n ds) ys e = cc
  some_entries (Receive a n s b) ys e = cc
  some_entries (Identify f) ys e = cc

  -- a log is a list of such exchanges in one way
  same_exchanges : (xs ys : List Exchange) → list_all is_sure xs ≡ true → list_all is_sure ys ≡ true → all_entries xs ≡ all_entries ys → xs ≡ ys
  same_exchanges [] [] sx sy e = refl
  same_exchanges [] (y ∷ ys) sx sy e = absurd (some_entries y ys (sym e))
  same_exchanges (x ∷ xs) [] sx sy e = absurd (some_entries x xs e)
  same_exchanges (x ∷ xs) (y ∷ ys) sx sy e =
      let parts = same_exchange x y xs ys sx sy e in
      cons_same parts.0 (same_exchanges xs ys (rest_of x xs sx) (rest_of y ys sy) parts.1)

  -- ---- sends of no byte

  -- a number's command, as an exchange
  abbrev pub number_command : Option ℕ → List Exchange
  number_command None = []
  number_command (Some n) = Command (ddl n) ∷ []

  -- a send of no byte as its commands
  abbrev pub plain : Exchange → List Exchange
  plain (Send a number []) = Command unl ∷ Command (lad a) ∷ number_command number
  plain x = x ∷ []

  abbrev pub all_plain : List Piece → List Exchange
  all_plain [] = []
  all_plain (Whole x ∷ ps) = plain x ++ all_plain ps
  all_plain (Cut x n b ∷ ps) = all_plain ps

  plain_entries : (x : Exchange) → all_entries (plain x) ≡ entries_of 0 x
  plain_entries (Send a None []) = refl
  plain_entries (Send a (Some n) []) = refl
  plain_entries (Send a number (d ∷ ds)) = append-nil (entries_of 0 (Send a number (d ∷ ds)))
  plain_entries (Command f) = refl
  plain_entries (Address k) = refl
  plain_entries (Receive a number s b) = append-nil (entries_of 0 (Receive a number s b))
  plain_entries (Identify f) = refl

  all_plain_entries : (ps : List Piece) → are_whole ps ≡ true → all_entries (all_plain ps) ≡ flat_map (piece_entries 0) ps
  all_plain_entries [] whole = refl
  all_plain_entries (Whole x ∷ ps) whole =
      flat_map-append (entries_of 0) (plain x) (all_plain ps) ∙ ap₂ (λ (es fs : List Entry). es ++ fs) (plain_entries x) (all_plain_entries ps whole)
  all_plain_entries (Cut x n b ∷ ps) whole = cc

  one_sure : (x : Exchange) → is_exchange ring x ≡ true → is_plain x ≡ true → list_all is_sure (x ∷ []) ≡ true
  one_sure x legal bytes = and_from (is_sure x) true (and_from (is_exchange ring x) (is_plain x) legal bytes) refl

  number_sure : (number : Option ℕ) → is_number number ≡ true → list_all is_sure (number_command number) ≡ true
  number_sure None legal = refl
  number_sure (Some n) legal =
      one_sure (Command (ddl n)) ((and_parts (gives_no_talk (returned 0 (ddl n))) true (ddl_no_talk (Some n) legal)).0) refl

  plain_sure : (x : Exchange) → is_exchange ring x ≡ true → list_all is_sure (plain x) ≡ true
  plain_sure (Send a number []) legal =
      let parts = and_parts (is_address a) (is_number number && true) legal in
      and_from (is_sure (Command (lad a))) (list_all is_sure (number_command number))
      (and_from (is_exchange ring (Command (lad a))) true (lad_no_talk a parts.0) refl)
      (number_sure number ((and_parts (is_number number) true parts.1).0))
  plain_sure (Send a number (d ∷ ds)) legal = one_sure (Send a number (d ∷ ds)) legal refl
  plain_sure (Command f) legal = one_sure (Command f) legal refl
  plain_sure (Address k) legal = one_sure (Address k) legal refl
  plain_sure (Receive a number s b) legal = one_sure (Receive a number s b) legal refl
  plain_sure (Identify f) legal = one_sure (Identify f) legal refl

  all_plain_sure : (ps : List Piece) → list_all (is_piece ring) ps ≡ true → are_whole ps ≡ true → list_all is_sure (all_plain ps) ≡ true
  all_plain_sure [] legal whole = refl
  all_plain_sure (Whole x ∷ ps) legal whole =
      let parts = and_parts (is_exchange ring x) (list_all (is_piece ring) ps) legal in
      list_all-append is_sure (plain x) (all_plain ps) ∙ and_from (list_all is_sure (plain x)) (list_all is_sure (all_plain ps)) (plain_sure x parts.0) (all_plain_sure ps parts.1 whole)
  all_plain_sure (Cut x n b ∷ ps) legal whole = cc

  -- ---- units

  if_same : {A : Type 0} (b : Bool) (x : A) → (if b then x else x) ≡ x
  if_same true x = refl
  if_same false x = refl

  no_transfer : (d a : ℕ) (number : Option ℕ) → is_transfer d (Send a number []) [] ≡ false
  no_transfer d a None = refl
  no_transfer d a (Some n) = or_false_both ((a == d) && (n == 2))
    where
      or_false_both : (b : Bool) → ((b && false) || false) ≡ false
      or_false_both true = refl
      or_false_both false = refl

  no_bytes : (a : ℕ) (number : Option ℕ) → sent_bytes (entries_of 0 (Send a number [])) ≡ []
  no_bytes a None = refl
  no_bytes a (Some n) = refl

  no_unit_of : (d k a : ℕ) (number : Option ℕ) (o : Option (Option ℕ)) → option_and_then (unit_of d k (Send a number []) (sent_bytes (entries_of 0 (Send a number [])))) o ≡ None
  no_unit_of d k a number None = refl
  no_unit_of d k a number (Some status) = rw (no_bytes a number, no_transfer d a number) refl

  no_seek : (a : ℕ) (number : Option ℕ) → sought ring (Whole (Send a number [])) ≡ None
  no_seek a None = refl
  no_seek a (Some n) = if_same ((a == drive) && (n == 4)) None

  -- the pieces of a list of whole exchanges
  abbrev pub wholes : List Exchange → List Piece
  wholes xs = map Whole xs

  same_third : (k : ℕ) (x : Exchange) (ps : List Piece) → are_whole ps ≡ true → unit_after_seek ring (Whole x ∷ wholes (all_plain ps)) k ≡ unit_after_seek ring (Whole x ∷ ps) k
  same_third k x [] whole = refl
  same_third k x (Cut y n b ∷ ps) whole = cc
  same_third k x (Whole (Send a number []) ∷ ps) whole = refl
  same_third k x (Whole y ∷ ps) whole = refl

  plain_after_seek : (k : ℕ) (ps : List Piece) → are_whole ps ≡ true → unit_after_seek ring (wholes (all_plain ps)) k ≡ unit_after_seek ring ps k
  plain_after_seek k [] whole = refl
  plain_after_seek k (Cut x n b ∷ ps) whole = cc
  plain_after_seek k (Whole (Send a number []) ∷ []) whole = refl
  plain_after_seek k (Whole (Send a number []) ∷ p ∷ ps) whole = sym (no_unit_of drive k a number (told_status ring p))
  plain_after_seek k (Whole x ∷ ps) whole = same_third k x ps whole

  -- the units of a log are those of its exchanges with each send of no byte taken as commands
  plain_units : (ps : List Piece) → are_whole ps ≡ true → units_of ring (wholes (all_plain ps)) ≡ units_of ring ps
  plain_units [] whole = refl
  plain_units (Cut x n b ∷ ps) whole = cc
  plain_units (Whole (Send a None []) ∷ ps) whole = plain_units ps whole
  plain_units (Whole (Send a (Some n) []) ∷ ps) whole =
      plain_units ps whole ∙ sym (ap (λ (o : Option ℕ). option_to_list (option_and_then (unit_after_seek ring ps) o) ++ units_of ring ps) (no_seek a (Some n)))
  plain_units (Whole x ∷ ps) whole =
      ap₂ (λ (us ws : List RecordUnit). us ++ ws) (ap option_to_list (from_seek (sought ring (Whole x)))) (plain_units ps whole)
    where
      from_seek : (o : Option ℕ) → option_and_then (unit_after_seek ring (wholes (all_plain ps))) o ≡ option_and_then (unit_after_seek ring ps) o
      from_seek None = refl
      from_seek (Some k) = plain_after_seek k ps whole

  -- however a whole log is read, its units are the same
  pub units_of-whole : (log : List Entry) (a b : IsWhole ring log) → units_of ring a.reading.pieces ≡ units_of ring b.reading.pieces
  units_of-whole log a b =
      let entries = all_plain_entries a.reading.pieces a.whole ∙ (sym a.reading.entries ∙ (b.reading.entries ∙ sym (all_plain_entries b.reading.pieces b.whole))) in
      let same = same_exchanges (all_plain a.reading.pieces) (all_plain b.reading.pieces) (all_plain_sure a.reading.pieces a.reading.legal a.whole) (all_plain_sure b.reading.pieces b.reading.legal b.whole) entries in
      sym (plain_units a.reading.pieces a.whole) ∙ (ap (λ (xs : List Exchange). units_of ring (wholes xs)) same ∙ plain_units b.reading.pieces b.whole)
