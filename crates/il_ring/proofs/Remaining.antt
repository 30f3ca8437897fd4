-- How the rounds of a second controller go on, entry by entry.
pub use Rattle.il_ring.specs.Remaining.{Follow}
use Rattle.std.proofs.Common.{◌≡◌, ◌∙◌, ◌+◌, ◌++◌, ◌==◌, ℕ, zero, suc, Bool, true, false, List, [], ◌∷◌, Option, None, refl, sym, ap, subst, arith, append_assoc}
use Rattle.std.specs.Prelude.{if◌then◌else◌}
use Rattle.std.specs.List.{list_all}
use Rattle.std.proofs.lemmas.Bool.{and_from}
use Rattle.il_frames.specs.declared.entry.Entry.{Entry}
use Rattle.il_frames.specs.declared.entry.Outcome.TheVariants as outcome
use Rattle.il_frames.specs.NamedFrames.{entry, nrd, rfc, tad, unl, unt}
use Rattle.il_device.specs.Roles.{is_own}
use Rattle.loop_model.specs.Exchanges.{Answer, Echo, NotTaken, Stopped, Receive, Sst, answer_entries, commanded, entries_of, returned, start_frame}
use Rattle.il_guest.specs.declared.control.Command.{Command}
use Rattle.il_guest.specs.declared.control.Command.TheVariants as command
use Rattle.il_guest.specs.Rounds.{addresses_from}
use Rattle.il_guest.specs.Steps.{asking, passed_over}
use Rattle.il_guest.proofs.RoundLaws.{asking-past, asking-within, next-not-own}
use Rattle.il_ring.specs.Lends.{are_reported_by, is_one_status}
use Rattle.il_ring.specs.Remaining.{AreRounds, BeginRounds, IsRound, asked_yet, from_byte, from_command, from_ready, from_start, from_unt}

-- ---- which address is asked next

-- the command that comes next, if these addresses are asked yet
abbrev pub next_command : List ℕ → Command
next_command [] = command.Nop
next_command (b ∷ more) = command.Unl b

-- the addresses after the next one
abbrev pub after_next : List ℕ → List ℕ
after_next [] = []
after_next (b ∷ more) = more

-- those that are asked yet in the round of the next command: that one's and the others, or all if a round begins
abbrev pub yet_asked : List ℕ → List ℕ → List ℕ
yet_asked addresses [] = addresses
yet_asked addresses (b ∷ more) = b ∷ more

-- this many addresses from a on
next_from : (own : Option ℕ) (last a m : ℕ) → a + m ≡ suc last → (asking last (passed_over own a) ≡ next_command (addresses_from own a m)) × ((b : ℕ) → (more : List ℕ) → addresses_from own a m ≡ b ∷ more → Follow own last b more)
next_from own last a m all = by (is_own own a) refl m all
  where
    head_of : (b : ℕ) (xs : List ℕ) (c : ℕ) (ys : List ℕ) → b ∷ xs ≡ c ∷ ys → b ≡ c
    head_of b xs c ys same = ap (λ l. elim l [ [] ↦ b | x ∷ rest ↦ x ]) same

    tail_of : (b : ℕ) (xs : List ℕ) (c : ℕ) (ys : List ℕ) → b ∷ xs ≡ c ∷ ys → xs ≡ ys
    tail_of b xs c ys same = ap (λ l. elim l [ [] ↦ xs | x ∷ rest ↦ rest ]) same

    at : (b n : ℕ) → b + n ≡ last → (c : ℕ) → (ys : List ℕ) → b ∷ addresses_from own (suc b) n ≡ c ∷ ys → Follow own last c ys
    at b n sum c ys same =
        subst (λ b. (n : ℕ) × (b + n ≡ last) × (ys ≡ addresses_from own (suc b) n)) (head_of b (addresses_from own (suc b) n) c ys same)
        (n, sum, sym (tail_of b (addresses_from own (suc b) n) c ys same))

    -- from an address on that is not the own one
    other : (b : ℕ) → is_own own b ≡ false → (n : ℕ) → b + n ≡ suc last → (asking last b ≡ next_command (addresses_from own b n)) × ((c : ℕ) → (ys : List ℕ) → addresses_from own b n ≡ c ∷ ys → Follow own last c ys)
    other b none zero sum = (asking-past last b (omega (arith, sum)), λ c ys same. let clash = same in cc)
    other b none (suc n) sum =
        let here : addresses_from own b (suc n) ≡ b ∷ addresses_from own (suc b) n = ap (λ own_one. if own_one then addresses_from own (suc b) n else b ∷ addresses_from own (suc b) n) none in (
          asking-within last b (omega (arith, sum)) ∙ sym (ap next_command here),
          λ c ys same. at b n (omega (arith, sum)) c ys (sym here ∙ same),
        )

    by : (own_one : Bool) → is_own own a ≡ own_one → (m : ℕ) → a + m ≡ suc last → (asking last (passed_over own a) ≡ next_command (addresses_from own a m)) × ((b : ℕ) → (more : List ℕ) → addresses_from own a m ≡ b ∷ more → Follow own last b more)
    by false none m all =
        let on = other a none m all in
        let here : passed_over own a ≡ a = ap (λ own_one. if own_one then suc a else a) none in
        (ap (asking last) here ∙ on.0, on.1)
    by true own_one zero all =
        let here : passed_over own a ≡ suc a = ap (λ own_one. if own_one then suc a else a) own_one in
        (ap (asking last) here ∙ asking-past last (suc a) (omega (arith, all)), λ b more same. let clash = same in cc)
    by true own_one (suc m) all =
        let here : passed_over own a ≡ suc a = ap (λ own_one. if own_one then suc a else a) own_one in
        let rest : addresses_from own a (suc m) ≡ addresses_from own (suc a) m = ap (λ own_one. if own_one then addresses_from own (suc a) m else a ∷ addresses_from own (suc a) m) own_one in
        let on = other (suc a) (next-not-own own a own_one) m (omega (arith, all)) in
        (ap (asking last) here ∙ on.0 ∙ ap next_command (sym rest), λ b more same. on.1 b more (sym rest ∙ same))

-- after the address a, of which these follow
pub next_after : (own : Option ℕ) (last a : ℕ) (more : List ℕ) → Follow own last a more → (asking last (passed_over own (suc a)) ≡ next_command more) × ((b : ℕ) → (rest : List ℕ) → more ≡ b ∷ rest → Follow own last b rest)
next_after own last a more follow =
    let on = next_from own last (suc a) follow.0 (omega (arith, follow.1)) in
    (on.0 ∙ ap next_command (sym follow.2), λ b rest same. on.1 b rest (sym follow.2 ∙ same))

-- at the beginning of a round
pub next_first : (own : Option ℕ) (last : ℕ) → (asking last (passed_over own 1) ≡ next_command (addresses_from own 1 last)) × ((b : ℕ) → (rest : List ℕ) → addresses_from own 1 last ≡ b ∷ rest → Follow own last b rest)
next_first own last = next_from own last 1 last (omega arith)

-- ---- entry by entry

-- if no answer is given yet
pub none_told : (k : ℕ) (xs : List ℕ) → IsRound k xs []
none_told k [] = (refl, refl)
none_told k (x ∷ xs) = (refl, refl)

module _ (k : ℕ) (addresses : List ℕ) where
  -- nothing has come yet
  pub begin_rounds : BeginRounds k addresses [] addresses (from_command k addresses [] command.Nop)
  begin_rounds now later round rounds = (
    now ∷ later,
    (and_from (list_all (is_one_status k) now) (list_all (λ round. list_all (is_one_status k) round) later) round.0 rounds.0, and_from (are_reported_by addresses now) (list_all (are_reported_by addresses) later) round.1 rounds.1),
    refl,
  )

  -- one more entry
  pub begin_more : (entries : List Entry) (yet yet_then : List ℕ) (goes on : List Answer → List (List Answer) → List Entry) (e : Entry)
      → ((now : List Answer) → (later : List (List Answer)) → IsRound k yet_then now → AreRounds k addresses later → (before : List Answer) × (then_ : List (List Answer)) × IsRound k yet before × AreRounds k addresses then_ × (goes before then_ ≡ e ∷ on now later))
      → BeginRounds k addresses entries yet goes → BeginRounds k addresses (entries ++ e ∷ []) yet_then on
  begin_more entries yet yet_then goes on e step begun now later round rounds =
      let so = step now later round rounds in
      let all = begun so.0 so.1 so.2 so.3 in
      (all.0, all.1, all.2 ∙ ap (λ rest. entries ++ rest) so.4 ∙ sym (append_assoc entries (e ∷ []) (on now later)))

  -- one more that is the same whatever the addresses will answer
  pub begin_same : (entries : List Entry) (yet : List ℕ) (goes on : List Answer → List (List Answer) → List Entry) (e : Entry) → ((now : List Answer) → (later : List (List Answer)) → goes now later ≡ e ∷ on now later)
      → BeginRounds k addresses entries yet goes → BeginRounds k addresses (entries ++ e ∷ []) yet on
  begin_same entries yet goes on e same = begin_more entries yet yet goes on e (λ now later round rounds. (now, later, round, rounds, same now later))

  -- what comes next, if these addresses are asked yet
  asked_next : (more : List ℕ) (now : List Answer) (later : List (List Answer)) → IsRound k (yet_asked addresses more) now → AreRounds k addresses later
      → (before : List Answer) × (then_ : List (List Answer)) × IsRound k more before × AreRounds k addresses then_ × (asked_yet k addresses more before then_ ≡ from_command k addresses (after_next more) (next_command more) now later)
  asked_next [] now later round rounds = ([], now ∷ later, (refl, refl), (and_from (list_all (is_one_status k) now) (list_all (λ round. list_all (is_one_status k) round) later) round.0 rounds.0, and_from (are_reported_by addresses now) (list_all (are_reported_by addresses) later) round.1 rounds.1), refl)
  asked_next (b ∷ more) [] later round rounds = ([], later, (refl, refl), rounds, whole (entries_of k (Receive b None Sst NotTaken)) refl)
    where
      whole : (x : List Entry) → x ≡ entries_of k (Receive b None Sst NotTaken) → x ++ asked_yet k addresses more [] later ≡ from_command k addresses more (command.Unl b) [] later
      whole x same = ap (λ x. x ++ asked_yet k addresses more [] later) same
  asked_next (b ∷ more) (answer ∷ now) later round rounds = (
    answer ∷ now,
    later,
    round,
    rounds,
    ap (λ es. returned k unl ∷ returned k rfc ∷ returned k (tad b) ∷ returned k rfc ∷ es) (append_assoc (answer_entries k (start_frame Sst) answer) (commanded k unt) (asked_yet k addresses more now later)),
  )

  -- a command comes back, and goes on by its RFC
  pub command_back : (yet more : List ℕ) (c : Command) (entries : List Entry) (f : Entry) → ((now : List Answer) → (later : List (List Answer)) → from_command k addresses more c now later ≡ f ∷ from_ready k addresses more c now later)
      → BeginRounds k addresses entries yet (from_command k addresses more c) → BeginRounds k addresses (entries ++ f ∷ []) yet (from_ready k addresses more c)
  command_back yet more c entries f same = begin_same entries yet (from_command k addresses more c) (from_ready k addresses more c) f same

  -- the RFC of an UNT comes back, or that of NOP
  pub ready_next : (more : List ℕ) (entries : List Entry) (goes : List Answer → List (List Answer) → List Entry) → ((now : List Answer) → (later : List (List Answer)) → goes now later ≡ returned k rfc ∷ asked_yet k addresses more now later)
      → BeginRounds k addresses entries more goes → BeginRounds k addresses (entries ++ returned k rfc ∷ []) (yet_asked addresses more) (from_command k addresses (after_next more) (next_command more))
  ready_next more entries goes same = begin_more entries more (yet_asked addresses more) goes (from_command k addresses (after_next more) (next_command more)) (returned k rfc)
      (λ now later round rounds. let so = asked_next more now later round rounds in (so.0, so.1, so.2, so.3, same so.0 so.1 ∙ ap (λ es. returned k rfc ∷ es) so.4))

  -- SST comes back
  pub start_back : (a : ℕ) (more : List ℕ) (entries : List Entry) → BeginRounds k addresses entries (a ∷ more) (from_start k addresses more) → BeginRounds k addresses (entries ++ returned k (start_frame Sst) ∷ []) more (from_unt k addresses more)
  start_back a more entries = begin_more entries (a ∷ more) more (from_start k addresses more) (from_unt k addresses more) (returned k (start_frame Sst))
      (λ now later round rounds. (NotTaken ∷ now, later, (and_from true (list_all (is_one_status k) now) refl round.0, and_from true (are_reported_by more now) refl round.1), rounds, refl))

  -- party q takes it, which is that of the address
  pub start_taken : (a : ℕ) (more : List ℕ) (entries : List Entry) (q : ℕ) (d : Echo) → is_one_status k (Stopped q [] d) ≡ true → (q == a) ≡ true → BeginRounds k addresses entries (a ∷ more) (from_start k addresses more)
      → BeginRounds k addresses (entries ++ entry k (start_frame Sst) (outcome.Taken q) ∷ []) more (λ now later. returned k nrd ∷ from_byte k addresses more q d now later)
  start_taken a more entries q d one at = begin_more entries (a ∷ more) more (from_start k addresses more) (λ now later. returned k nrd ∷ from_byte k addresses more q d now later) (entry k (start_frame Sst) (outcome.Taken q))
      (λ now later round rounds. (Stopped q [] d ∷ now, later, (and_from (is_one_status k (Stopped q [] d)) (list_all (is_one_status k) now) one round.0, and_from (q == a) (are_reported_by more now) at round.1), rounds, refl))
