-- A send that goes on: byte after byte it is one exchange.
use Rattle.std.proofs.Common.{◌≡◌, ◌∙◌, ◌++◌, ◌&&◌, ℕ, true, List, [], ◌∷◌, Option, map, refl, sym, ap, subst, append_assoc, eq-eqb}
use Rattle.std.specs.List.{list_all}
use Rattle.std.proofs.lemmas.Bool.{and_parts, and_from}
use Rattle.std.proofs.lemmas.List.{map-append}
use Rattle.std.proofs.lemmas.List.Folds.{list_all-append}
use Rattle.il_frames.specs.declared.frame.Class.TheVariants as class
use Rattle.il_frames.specs.Frames.{framed}
use Rattle.il_ports.specs.Media.{MediumView}
use Rattle.il_frames.specs.NamedFrames.{unl, lad, ddl}
use Rattle.loop_model.specs.Exchanges.{Echo, Send, echoed, commanded, numbered, entries_of, is_exchange, is_host_echo, is_address, is_number}
use Rattle.il_ring.specs.Rings.{RingView}
use Rattle.il_control.specs.Calls.{Whole, Broke, IsIdle, loop_of, Made, BrokenOff, sent_as, Sent, NotSent}
use Rattle.il_control.proofs.Calls.{whole_then, broke_after}
use Rattle.il_control.proofs.Made.{made, quiet_broken_off}
use Rattle.il_control.proofs.HeldAtEnd.{send_quiet}

-- the entries with one more data frame
more_entries : (a : ℕ) (number : Option ℕ) (ds : List Echo) (d : Echo) → entries_of 0 (Send a number ds) ++ echoed 0 d ∷ [] ≡ entries_of 0 (Send a number (ds ++ d ∷ []))
more_entries a number ds d =
    ap (λ rest. commanded 0 unl ++ (commanded 0 (lad a) ++ rest))
    (append_assoc (numbered 0 ddl number) (map (echoed 0) ds) (echoed 0 d ∷ []) ∙ ap (λ echoes. numbered 0 ddl number ++ echoes) (sym (map-append (echoed 0) ds (d ∷ []))))

more_legal : {M : Type 0} (r : RingView M) (a : ℕ) (number : Option ℕ) (ds : List Echo) (d : Echo) → is_exchange (loop_of r) (Send a number ds) ≡ true → is_host_echo d ≡ true → is_exchange (loop_of r) (Send a number (ds ++ d ∷ [])) ≡ true
more_legal r a number ds d legal echo =
    let parts = and_parts (is_address a) (is_number number && list_all is_host_echo ds) legal in
    let numbers = and_parts (is_number number) (list_all is_host_echo ds) parts.1 in
    and_from (is_address a) (is_number number && list_all is_host_echo (ds ++ d ∷ [])) parts.0
    (and_from (is_number number) (list_all is_host_echo (ds ++ d ∷ [])) numbers.0
    (list_all-append is_host_echo ds (d ∷ []) ∙ and_from (list_all is_host_echo ds) (list_all is_host_echo (d ∷ [])) numbers.1 (and_from (is_host_echo d) true echo refl)))

-- one byte more
pub send_more : {M : Type 0} (view : M → MediumView) (a : ℕ) (number : Option ℕ) (ds : List Echo) (byte : ℕ) (r m s : RingView M) → IsIdle r → Made view (Send a number ds) r m → (sent : Sent view byte m s) → Made view (Send a number (ds ++ sent_as byte sent.back ∷ [])) r s
send_more view a number ds byte r m s idle before sent =
    let d = sent_as byte sent.back in
    let whole = whole_then view r m s (entries_of 0 (Send a number ds)) (echoed 0 d ∷ []) idle.free.ring before.whole sent.whole in
    made view (Send a number (ds ++ d ∷ [])) r s idle (more_legal r a number ds d before.legal sent.legal) refl refl (subst (λ es. Whole view r es s) (more_entries a number ds d) whole)

-- as it was sent
own_echo : (byte : ℕ) → is_host_echo (sent_as byte (framed class.Dab byte)) ≡ true
own_echo byte = eq-eqb byte byte refl

-- or the send broke off at it
pub send_breaks : {M : Type 0} (view : M → MediumView) (a : ℕ) (number : Option ℕ) (ds : List Echo) (byte : ℕ) (r m s : RingView M) → IsIdle r → Made view (Send a number ds) r m → NotSent view byte m s → BrokenOff view (Send a number (ds ++ sent_as byte (framed class.Dab byte) ∷ [])) r s
send_breaks view a number ds byte r m s idle before not_sent =
    let d = sent_as byte (framed class.Dab byte) in
    let broke = broke_after view r m s (entries_of 0 (Send a number ds)) (echoed 0 d ∷ []) idle.free.ring before.whole not_sent.broke in
    let legal = more_legal r a number ds d before.legal (own_echo byte) in
    quiet_broken_off view (Send a number (ds ++ d ∷ [])) r s idle legal refl (send_quiet a number (ds ++ d ∷ []) (and_parts (is_number number) (list_all is_host_echo (ds ++ d ∷ [])) (and_parts (is_address a) (is_number number && list_all is_host_echo (ds ++ d ∷ [])) legal).1).1) (subst (λ es. Broke view r es s) (more_entries a number ds d) broke)
