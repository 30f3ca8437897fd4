-- Who talks, and what each device has of its own, at a place of the rounds of a second controller.
pub use Rattle.il_control.specs.Polling.{QuietCommand, QuietReady, AskedSince, SinceCommand, SinceReady}
use Rattle.std.proofs.Common.{◌≡◌, ◌∙◌, ◌≤◌, ◌++◌, ℕ, Bool, true, false, List, [], ◌∷◌, None, length, refl, sym, ap, append_assoc, append-nil}
use Rattle.std.specs.Prelude.{if◌then◌else◌, nat_le}
use Rattle.std.proofs.lemmas.Bool.{and_from, le-leb}
use Rattle.il_frames.specs.declared.entry.Entry.{Entry}
use Rattle.il_frames.specs.declared.message.Message.TheVariants as msg
use Rattle.il_frames.specs.NamedFrames.{rfc, tad, unl, unt}
use Rattle.il_device.specs.declared.roles.Roles.{Roles}
use Rattle.il_device.specs.Roles.{is_own}
use Rattle.il_device.specs.State.{DeviceState}
use Rattle.il_device.specs.Passing.{is_plain}
use Rattle.loop_model.specs.Exchanges.{Answer, Exchange, Receive, Sst, Whole as WholeOne, IsWhole, answer_entries, commanded, entries_of, is_answer, receive_front, returned, start_frame}
use Rattle.loop_model.specs.Loops.{host_loop}
use Rattle.loop_model.specs.Roles.{talkers, roles_after, are_numbered, is_at_most_one}
use Rattle.loop_model.proofs.RoleLaws.{roles_after-append, no_talkers, all_quiet, quiet_log, talkers-whole}
use Rattle.loop_model.proofs.RoundLaws.{are_numbered-piece}
use Rattle.loop_model.proofs.TalkLaws.{are_numbered-log}
use Rattle.il_guest.specs.declared.control.Command.{Command}
use Rattle.il_guest.specs.declared.control.Command.TheVariants as command
use Rattle.il_guest.specs.Frames.{nop}
use Rattle.il_guest.specs.Steps.{asking, command_frame}
use Rattle.il_guest.proofs.SentLemmas.{command_says}
use Rattle.il_ring.specs.Lists.{Each, First}
use Rattle.il_ring.specs.Outcomes.{Obeys}
use Rattle.il_ring.specs.Rings.{roles_of}
use Rattle.il_ring.proofs.EndsHome.{any_each}
use Rattle.il_ring.proofs.PassKinds.{Any}
use Rattle.il_control.specs.Receives.{IsCalm, IsDeaf}
use Rattle.il_control.proofs.Asking.{each_obeys}
use Rattle.il_control.proofs.Talking.{one_asked}
use Rattle.il_ring.proofs.MessageKinds.{each_command}

-- ---- since an address is asked

pub since_more : (P Q : List Entry → Type 0) (front then_ : List DeviceState) (es : List Entry) → ((since : List Entry) → P since → Q (since ++ es)) → AskedSince P front → roles_of then_ ≡ roles_after (roles_of front) es → AskedSince Q then_
since_more P Q front then_ es rule s more = record {
  before = s.before;
  silent = s.silent;
  numbered = s.numbered;
  since = s.since ++ es;
  made = rule s.since s.made;
  roles = more ∙ ap (λ rs. roles_after rs es) s.roles ∙ sym (roles_after-append s.before s.since es);
}

-- a command came back
pub since_command : (c : Command) (front then_ : List DeviceState) → AskedSince (SinceCommand c) front → roles_of then_ ≡ roles_after (roles_of front) (returned 0 (command_frame c) ∷ []) → AskedSince (SinceReady c) then_
since_command c front then_ s more = since_more (SinceCommand c) (SinceReady c) front then_ (returned 0 (command_frame c) ∷ []) (rule c) s more
  where
    rule : (c : Command) (since : List Entry) → SinceCommand c since → SinceReady c (since ++ returned 0 (command_frame c) ∷ [])
    rule command.Nop since is = ap (λ es. es ++ returned 0 nop ∷ []) is
    rule (command.Unl a) since is = ap (λ es. es ++ returned 0 unl ∷ []) is
    rule (command.Tad a) since is = ap (λ es. es ++ returned 0 (tad a) ∷ []) is
    rule (command.Unt a) since is = (is.0, is.1, ap (λ es. es ++ returned 0 unt ∷ []) is.2 ∙ append_assoc (receive_front 0 a None) (answer_entries 0 (start_frame Sst) is.0) (returned 0 unt ∷ []))

-- no address is asked yet
pub none_asked : (front : List DeviceState) (rs : List Roles) → talkers rs ≡ [] → are_numbered 1 rs ≡ true → roles_of front ≡ rs → AskedSince (λ since. since ≡ []) front
none_asked front rs silent numbered roles = record { before = rs; silent = silent; numbered = numbered; since = []; made = refl; roles = roles }

since_asking : (last b : ℕ) (c : Command) (front : List DeviceState) → asking last b ≡ c → AskedSince (λ since. since ≡ []) front → AskedSince (SinceCommand (asking last b)) front
since_asking last b c front is s = by (nat_le b last)
  where
    by : (more : Bool) → AskedSince (SinceCommand (if more then command.Unl b else command.Nop)) front
    by true = s
    by false = s

-- the RFC of a command came back: of NOP, or of UNT, of which the receive is whole then
pub since_nop : (front then_ : List DeviceState) → AskedSince (SinceReady command.Nop) front → roles_of then_ ≡ roles_after (roles_of front) (returned 0 rfc ∷ []) → AskedSince (λ since. since ≡ []) then_
since_nop front then_ s more =
    none_asked then_ (roles_after s.before (commanded 0 nop)) (no_talkers 1 (roles_after s.before (commanded 0 nop)) (quiet_log s.before (commanded 0 nop) refl (all_quiet 1 s.before s.silent))) (are_numbered-log s.before (commanded 0 nop) refl s.numbered)
    (more ∙ ap (λ rs. roles_after rs (returned 0 rfc ∷ [])) (s.roles ∙ ap (roles_after s.before) s.made))

pub since_unt : (a : ℕ) (front then_ : List DeviceState) → a ≤ 30 → AskedSince (SinceReady (command.Unt a)) front → roles_of then_ ≡ roles_after (roles_of front) (returned 0 rfc ∷ []) → AskedSince (λ since. since ≡ []) then_
since_unt a front then_ low s more =
    let answer = s.made.0 in
    let x : Exchange = Receive a None Sst answer in
    let legal = and_from _ _ (le-leb a 30 low) s.made.1 in
    let whole : IsWhole (host_loop 0 0) (entries_of 0 x) = record {
      reading = record { pieces = WholeOne x ∷ []; legal = and_from _ _ legal refl; entries = sym (append-nil (entries_of 0 x)) };
      whole = refl;
    } in
    let all : s.since ++ returned 0 rfc ∷ [] ≡ entries_of 0 x =
    ap (λ es. es ++ returned 0 rfc ∷ []) s.made.2 ∙ append_assoc (receive_front 0 a None) (answer_entries 0 (start_frame Sst) answer ++ returned 0 unt ∷ []) (returned 0 rfc ∷ [])
    ∙ ap (λ es. receive_front 0 a None ++ es) (append_assoc (answer_entries 0 (start_frame Sst) answer) (returned 0 unt ∷ []) (returned 0 rfc ∷ [])) in
    none_asked then_ (roles_after s.before (entries_of 0 x)) (talkers-whole 0 0 s.before (entries_of 0 x) s.silent whole) (are_numbered-piece 0 0 s.before (WholeOne x) legal refl s.numbered)
    (more ∙ ap (λ rs. roles_after rs (returned 0 rfc ∷ [])) s.roles ∙ sym (roles_after-append s.before s.since (returned 0 rfc ∷ [])) ∙ ap (roles_after s.before) all)

-- that of UNL, and that of a talk address
pub since_unl : (a : ℕ) (front then_ : List DeviceState) → AskedSince (SinceReady (command.Unl a)) front → roles_of then_ ≡ roles_after (roles_of front) (returned 0 rfc ∷ []) → AskedSince (SinceCommand (command.Tad a)) then_
since_unl a front then_ s more = since_more (SinceReady (command.Unl a)) (SinceCommand (command.Tad a)) front then_ (returned 0 rfc ∷ []) (λ since is. ap (λ es. es ++ returned 0 rfc ∷ []) is) s more

pub since_tad : (a : ℕ) (front then_ : List DeviceState) → AskedSince (SinceReady (command.Tad a)) front → roles_of then_ ≡ roles_after (roles_of front) (returned 0 rfc ∷ []) → AskedSince (λ since. since ≡ receive_front 0 a None) then_
since_tad a front then_ s more = since_more (SinceReady (command.Tad a)) (λ since. since ≡ receive_front 0 a None) front then_ (returned 0 rfc ∷ []) (λ since is. ap (λ es. es ++ returned 0 rfc ∷ []) is) s more

-- one device talks at most, as SST goes out
pub since_one : (a : ℕ) (front : List DeviceState) → a ≤ 30 → AskedSince (λ since. since ≡ receive_front 0 a None) front → is_at_most_one (talkers (roles_of front)) ≡ true
since_one a front low s = ap (λ rs. is_at_most_one (talkers rs)) (s.roles ∙ ap (roles_after s.before) s.made) ∙ one_asked s.before a None s.numbered s.silent (le-leb a 30 low) refl

-- SST, and what came of it
pub since_answer : (a : ℕ) (front then_ : List DeviceState) (answer : Answer) → is_answer 0 answer ≡ true → AskedSince (λ since. since ≡ receive_front 0 a None) front → roles_of then_ ≡ roles_after (roles_of front) (answer_entries 0 (start_frame Sst) answer) → AskedSince (SinceCommand (command.Unt a)) then_
since_answer a front then_ answer is s more =
    since_more (λ since. since ≡ receive_front 0 a None) (SinceCommand (command.Unt a)) front then_ (answer_entries 0 (start_frame Sst) answer) (λ since made. (answer, is, ap (λ es. es ++ answer_entries 0 (start_frame Sst) answer) made)) s more

-- ---- nobody listens, and nobody sends

deaf_where : (b : Bool) (r : Roles) → r.listens ≡ false → (if b then record r { talks = true; listens = false } else record r { talks = false }).listens ≡ false
deaf_where true r deaf = refl
deaf_where false r deaf = deaf

-- a command came back
pub quiet_command : (c : Command) (ds es : List DeviceState) → First (Obeys (command_says c)) (length ds) ds es → QuietCommand c ds → QuietReady c es
quiet_command command.Nop ds es took quiet = tt
quiet_command (command.Unl a) ds es took quiet = each_obeys (Obeys msg.Unl) Any IsDeaf (λ k d e obeys any. ap (λ (r : Roles). r.listens) obeys.roles) 1 ds es took (any_each 1 ds)
quiet_command (command.Tad a) ds es took quiet =
    each_obeys (Obeys (msg.Tad a)) IsDeaf IsCalm (λ k d e obeys deaf. (ap (λ (r : Roles). r.listens) obeys.roles ∙ deaf_where (is_own d.roles.address a) d.roles deaf, obeys.own)) 1 ds es took quiet
quiet_command (command.Unt a) ds es took quiet = tt

-- and its RFC
pub deaf_ready : (ds es : List DeviceState) → First (Obeys msg.Rfc) (length ds) ds es → Each IsDeaf 1 ds → Each IsDeaf 1 es
deaf_ready ds es took deaf = each_obeys (Obeys msg.Rfc) IsDeaf IsDeaf (λ k d e obeys deaf. ap (λ (r : Roles). r.listens) obeys.roles ∙ deaf) 1 ds es took deaf

pub calm_ready : (ds es : List DeviceState) → First (Obeys msg.Rfc) (length ds) ds es → Each IsCalm 1 ds → Each IsCalm 1 es
calm_ready ds es took calm = each_obeys (Obeys msg.Rfc) IsCalm IsCalm (λ k d e obeys calm. (ap (λ (r : Roles). r.listens) obeys.roles ∙ calm.0, obeys.own ∙ calm.1)) 1 ds es took calm

pub command_plain : (c : Command) → is_plain (command_says c) ≡ true
command_plain = each_command (λ c. is_plain (command_says c) ≡ true) refl (λ a. refl) (λ a. refl) (λ a. refl)
