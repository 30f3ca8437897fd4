-- A command whose byte is none of those of the talk addresses gives no talk address.
use Rattle.std.proofs.Common.{◌≡◌, ◌+◌, ◌-◌, ◌&&◌, ◌==◌, ℕ, Bool, true, false, List, [], ◌∷◌, nat_le, nat_lt, refl, arith}
use Rattle.std.specs.Prelude.{if◌then◌else◌}
use Rattle.std.proofs.lemmas.Bool.Decides.{nat_tests}
use Rattle.il_frames.specs.declared.frame.Class.TheVariants as class
use Rattle.il_frames.specs.declared.message.Message.{Message}
use Rattle.il_frames.specs.declared.message.Message.TheVariants as msg
use Rattle.il_frames.specs.Messages.{Row, One, Group, commands, message_in, message_at}
use Rattle.loop_model.specs.Exchanges.{is_talk_address}
use Rattle.trace_readers.specs.Places.{is_within}

-- at this byte no row gives a talk address
abbrev Quiet : List Row → ℕ → Type 0
Quiet [] byte = Unit {0}
Quiet (One at message ∷ rows) byte = (is_talk_address message ≡ false) × Quiet rows byte
Quiet (Group first count message ∷ rows) byte =
    ((nat_le first byte && nat_lt byte (first + count)) ≡ true →
    is_talk_address (message (byte - first)) ≡ false) × Quiet rows byte

either : (b : Bool) (m n : Message) → (b ≡ true → is_talk_address m ≡ false) → is_talk_address n ≡ false →
    is_talk_address (if b then m else n) ≡ false
either true m n p q = p refl
either false m n p q = q

quiet_in : (rows : List Row) (byte : ℕ) → Quiet rows byte → is_talk_address (message_in rows byte msg.OtherCmd) ≡ false
quiet_in [] byte q = refl
quiet_in (One at message ∷ rows) byte q = either (byte == at) message _ (λ h. q.0) (quiet_in rows byte q.1)
quiet_in (Group first count message ∷ rows) byte q =
    either (nat_le first byte && nat_lt byte (first + count)) (message (byte - first)) _ q.0 (quiet_in rows byte q.1)

talk_row : (byte : ℕ) → is_within 0x40 0x5E byte ≡ false → (nat_le 0x40 byte && nat_lt byte (0x40 + 31)) ≡ true → ⊥
talk_row byte off on = grind (arith, nat_tests)

pub quiet_byte : (byte : ℕ) → is_within 0x40 0x5E byte ≡ false → is_talk_address (message_at class.Cmd byte) ≡ false
quiet_byte byte off =
    quiet_in commands byte (
      refl,
      (
        refl,
        (
          refl,
          (
            refl,
            (
              refl,
              (
                refl,
                (
                  refl,
                  (
                    refl,
                    (
                      refl,
                      (
                        refl,
                        (
                          refl,
                          (
                            λ h. refl,
                            (
                              refl,
                              (
                                λ h. absurd (talk_row byte off h),
                                (
                                  refl,
                                  (
                                    λ h. refl,
                                    (
                                      λ h. refl,
                                      (
                                        refl,
                                        (
                                          refl,
                                          (
                                            refl,
                                            (
                                              refl,
                                              (
                                                refl,
                                                (
                                                  λ h. refl,
                                                  (λ h. refl, tt),
                                                ),
                                              ),
                                            ),
                                          ),
                                        ),
                                      ),
                                    ),
                                  ),
                                ),
                              ),
                            ),
                          ),
                        ),
                      ),
                    ),
                  ),
                ),
              ),
            ),
          ),
        ),
      ),
    )
