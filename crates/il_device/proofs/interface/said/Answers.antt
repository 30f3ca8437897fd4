use Rattle.std.proofs.Common.{◌≡◌, true, false, refl, ap, arith}
use Rattle.std.proofs.lemmas.Bool.Decides.{nat_tests}
use Rattle.il_frames.specs.declared.frame.Class.TheVariants as class
use Rattle.il_frames.specs.declared.frame.Frame.{Frame}
use Rattle.il_frames.specs.declared.message.Message.{Message}
use Rattle.il_frames.specs.declared.message.Message.TheVariants as msg
use Rattle.il_frames.specs.Frames.{framed, is_data, IsFrame}
use Rattle.il_frames.specs.Messages.{message_of, is_in_range}
use Rattle.il_device.specs.Roles.{is_data_message}
use Rattle.il_device.proofs.interface.said.Goals as goal

-- no other frame says the same
abbrev IsAlone : Frame → Message → Type 0
IsAlone f m = (g : Frame) → IsFrame g → message_of g ≡ m → g ≡ f

-- so a frame that is no data does not say what the data frame g says
other_class : (f g : Frame) → is_data f ≡ false → is_data g ≡ true → g ≡ f → true ≡ false
other_class f g h d e = let clash : is_data g ≡ is_data f = ap is_data e in cc

no_data : (f : Frame) (m : Message) → is_data f ≡ false → is_in_range m ≡ true → IsAlone f m →
    is_data_message m ≡ false
no_data f (msg.Dab n) h range alone =
    let g = framed class.Dab n in other_class f g h refl (alone g (grind (arith, nat_tests)) refl)
no_data f (msg.Dsr n) h range alone =
    let g = framed class.Dsr n in other_class f g h refl (alone g (grind (arith, nat_tests)) refl)
no_data f (msg.End n) h range alone =
    let g = framed class.End n in other_class f g h refl (alone g (grind (arith, nat_tests)) refl)
no_data f (msg.Esr n) h range alone =
    let g = framed class.Esr n in other_class f g h refl (alone g (grind (arith, nat_tests)) refl)
no_data f _ h range alone = refl

pub returns-clause-other : goal.returns-clause-other
returns-clause-other c =
    no_data c.args.frame c.message.result c.requires.other c.message.ensures.range c.message.ensures.distinct
