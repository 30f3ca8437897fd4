-- The number of a message is in its range: computed over all frames.
use Rattle.std.proofs.Common.{◌≡◌, true, refl}
use Rattle.il_frames.specs.declared.frame.Class.{Class}
use Rattle.il_frames.specs.declared.frame.Class.TheVariants as class
use Rattle.il_frames.specs.declared.frame.Frame.{Frame}
use Rattle.il_frames.specs.declared.message.Message.{Message}
use Rattle.il_frames.specs.Frames.{class_of, byte_of, IsFrame}
use Rattle.il_frames.specs.Messages.{message_at, message_of, is_in_range}
use Rattle.il_frames.proofs.ReadBack.{all_below, all_below-at}

all_in_range : (k : Class) → all_below (λ b. is_in_range (message_at k b)) 256 ≡ true
unfolding all_below
all_in_range class.Dab = refl
all_in_range class.Dsr = refl
all_in_range class.End = refl
all_in_range class.Esr = refl
all_in_range class.Cmd = refl
all_in_range class.Rdy = refl
all_in_range class.Idy = refl
all_in_range class.Isr = refl

pub is_in_range-message_of : (f : Frame) → IsFrame f → is_in_range (message_of f) ≡ true
is_in_range-message_of f h =
    all_below-at (λ b. is_in_range (message_at (class_of f) b)) 256 (byte_of f) (all_in_range (class_of f)) h

pub is_in_range-is : (f : Frame) (m : Message) → IsFrame f → m ≡ message_of f → is_in_range m ≡ true
is_in_range-is f m h e = rw e (is_in_range-message_of f h)
