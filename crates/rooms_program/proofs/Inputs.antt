-- What was read of an input that is accepted.
use Rattle.std.proofs.Common.{◌≡◌, ℕ, ◌+◌, ◌≤◌, ◌⊎◌, List, length, take, inl, inr, Some, None, sym, subst, ◌∙◌, ap, arith}
use Rattle.std.specs.declared.option.Option.{Option}
use Rattle.std.proofs.lemmas.List.{take_all}
use Rattle.std.specs.Io.KnownBytes.{IsAtEnd}
use Rattle.image_core.specs.Heap.{Heap}
use Rattle.image_reader.specs.Bytes.{IsImage}
use Rattle.image_core.specs.Fault.{Tells}
use Rattle.image_core.specs.declared.fault.ImageFault.{ImageFault}
use Rattle.image_core.specs.declared.fault.ReadImage.{ReadImage}
use Rattle.image_reader.specs.Fault.{HasFault}
use Rattle.image_reader.proofs.Spelling.{length-spelling}
use Rattle.image_reader.proofs.Once.{no_fault}
use Rattle.rooms_program.specs.Commands.{Reads, most_image, most_bytes, Accepts, IsOutput, RefusesImage, Refuses}
use Rattle.rooms_program.specs.Limits.{IsAlone}
use Rattle.rooms_program.specs.Runs.{WasRead}
use Rattle.rooms_program.specs.Statuses.{of_read}
use Rattle.command_words.specs.declared.command.Command.{Command}
use Rattle.command_words.specs.declared.command.Command.TheVariants.{Compact, Mark, Check, Make, Trial, Schedule}
use Rattle.rooms_program.specs.declared.status.Status.{Status}
use Rattle.rooms_program.specs.declared.status.Status.TheVariants.{Good, Words, Image, ReadFault, WriteFault, Script, Act, TooLong, Memory}

-- a command that reads an input and takes no threads reads
pub alone_reads : (command : Command) → IsAlone command → Reads command
alone_reads (Compact options) alone = absurd alone
alone_reads (Mark options made) alone = absurd alone
alone_reads (Make made) alone = absurd alone
alone_reads Check alone = tt
alone_reads Trial alone = absurd alone
alone_reads Schedule alone = tt

-- a command reads, or it does not
pub reads_or_not : (command : Command) → Reads command ⊎ (¬ Reads command)
reads_or_not (Compact options) = inl tt
reads_or_not (Mark options None) = inl tt
reads_or_not (Mark options (Some image)) = inr (λ r. r)
reads_or_not Check = inl tt
reads_or_not (Make image) = inr (λ r. r)
reads_or_not Trial = inl tt
reads_or_not Schedule = inl tt

-- one that does not read accepts each input
pub unread_accepts : (command : Command) → ¬ Reads command → (input : List ℕ) → Accepts command input
unread_accepts (Compact options) unread input = absurd (unread tt)
unread_accepts (Mark options None) unread input = absurd (unread tt)
unread_accepts (Mark options (Some image)) unread input = tt
unread_accepts Check unread input = absurd (unread tt)
unread_accepts (Make image) unread input = tt
unread_accepts Trial unread input = absurd (unread tt)
unread_accepts Schedule unread input = absurd (unread tt)

-- one that refuses bytes reads
pub refusing_reads : (command : Command) (bytes : List ℕ) (why : Status) → Refuses command bytes why → Reads command
refusing_reads (Compact options) bytes why r = tt
refusing_reads (Mark options None) bytes why r = tt
refusing_reads (Mark options (Some image)) bytes why r = absurd r
refusing_reads Check bytes why r = tt
refusing_reads (Make image) bytes why r = absurd r
refusing_reads Trial bytes why r = tt
refusing_reads Schedule bytes why r = tt

-- an image has no more bytes than an image may have
image_size : (bytes : List ℕ) (heap : Heap) → IsImage bytes heap → length bytes ≤ most_image
image_size bytes heap i =
    let spells = i.spells in
    omega (arith, ap length spells.spelled_so, length-spelling heap.format heap.words heap.roots, spells.few_words, spells.few_roots)

-- an input that is accepted is not too long
accepted_size : (command : Command) (input : List ℕ) → Reads command → Accepts command input → length input ≤ most_bytes command
accepted_size (Compact options) input reads a = image_size input a.0 a.1
accepted_size (Mark options None) input reads a = image_size input a.0 a.1
accepted_size (Mark options (Some image)) input reads a = absurd reads
accepted_size Check input reads a = image_size input a.0 a.1
accepted_size (Make image) input reads a = absurd reads
accepted_size Trial input reads a = a.0
accepted_size Schedule input reads a = a.few

-- an input that has an output is accepted
output_accepted : (command : Command) (input output : List ℕ) → IsOutput command input output → Accepts command input
output_accepted (Compact options) input output o = (o.heap, o.image)
output_accepted (Mark options None) input output o = (o.heap, o.image)
output_accepted (Mark options (Some image)) input output o = tt
output_accepted Check input output o = (o.heap, o.image)
output_accepted (Make image) input output o = tt
output_accepted Trial input output o = (o.few, (o.outline, o.spells))
output_accepted Schedule input output o = o.runnable

-- an input that has an output was read to its end
pub read_to_end : (command : Command) (left now_left : Option (List ℕ)) (bytes output : List ℕ) → Reads command → WasRead (most_bytes command) left now_left bytes → IsOutput command bytes output → IsAtEnd now_left
read_to_end command left now_left bytes output reads w o =
    let few = accepted_size command bytes reads (output_accepted command bytes output o) in
    elim w.enough [ inl e ↦ e | inr e ↦ absurd (omega (arith, e, few)) ]

-- what was read of an input that is accepted is accepted
pub read_accepted : (command : Command) (input bytes : List ℕ) → (Reads command → bytes ≡ take (most_bytes command + 1) input) → Accepts command input → Accepts command bytes
read_accepted command input bytes known a = elim (reads_or_not command) [
  | inl reads ↦
      let few = accepted_size command input reads a in
      let whole : take (most_bytes command + 1) input ≡ input = take_all (most_bytes command + 1) input (omega (arith, few)) in
      subst (Accepts command) (sym (known reads ∙ whole)) a
  | inr unread ↦ unread_accepts command unread bytes
]

-- an image is not refused
pub image_unrefused : (bytes : List ℕ) (heap : Heap) (why : Status) → IsImage bytes heap → RefusesImage bytes why → ⊥
image_unrefused bytes heap (Image fault) i r = no_fault bytes heap fault i r
image_unrefused bytes heap Good i r = r
image_unrefused bytes heap Words i r = r
image_unrefused bytes heap ReadFault i r = r
image_unrefused bytes heap WriteFault i r = r
image_unrefused bytes heap (Script line) i r = r
image_unrefused bytes heap (Act at act) i r = r
image_unrefused bytes heap TooLong i r = r
image_unrefused bytes heap Memory i r = r

-- a refusal of an image that tells the fault of the bytes is the one that they give
pub image_refusal : (bytes : List ℕ) (why : Status) (refusal : ReadImage) → RefusesImage bytes why
    → ((fault : ImageFault) → HasFault bytes fault → Tells fault refusal) → (of_read refusal ≡ why) ⊎ (of_read refusal ≡ Memory)
image_refusal bytes (Image fault) refusal r told = elim (told fault r) [
  | inl memory ↦ inr (ap of_read memory)
  | inr same ↦ inl (ap of_read same)
]
image_refusal bytes Good refusal r told = absurd r
image_refusal bytes Words refusal r told = absurd r
image_refusal bytes ReadFault refusal r told = absurd r
image_refusal bytes WriteFault refusal r told = absurd r
image_refusal bytes (Script line) refusal r told = absurd r
image_refusal bytes (Act at act) refusal r told = absurd r
image_refusal bytes TooLong refusal r told = absurd r
image_refusal bytes Memory refusal r told = absurd r
