-- What a status means outside the program: the number that it ends with, and its note.
use Rattle.std.specs.Prelude.{ℕ, List, [], ◌++◌, codes, decimal}
use Rattle.image_core.specs.declared.fault.ImageKind.{ImageKind}
use Rattle.image_core.specs.declared.fault.ImageKind.TheVariants.{Short, Magic, TooManyWords, TooManyRoots, Long, Overrun, TooManyObjects, BadRef, BadRoot}
use Rattle.image_core.specs.declared.fault.ReadImage.{ReadImage}
use Rattle.image_core.specs.declared.fault.ReadImage.TheVariants as read
use Rattle.room_core.specs.declared.acts.Refused.{Refused}
use Rattle.room_core.specs.declared.acts.Refused.TheVariants.{NoCaller, NoRoom, NotFree, NotIn, Stuck, Spent}
use Rattle.rooms_program.specs.declared.status.Status.{Status}
use Rattle.rooms_program.specs.declared.status.Status.TheVariants.{Good, Words, Image, ReadFault, WriteFault, Script, Act, TooLong, Memory}

-- the number that the program ends with
abbrev pub code_of : Status → ℕ
code_of Good = 0
code_of Words = 2
code_of (Image fault) = 3
code_of ReadFault = 4
code_of WriteFault = 5
code_of (Script line) = 6
code_of (Act at why) = 7
code_of TooLong = 8
code_of Memory = 9

-- the name of a kind of fault
abbrev pub kind_name : ImageKind → List ℕ
kind_name Short = codes "Short"
kind_name Magic = codes "Magic"
kind_name TooManyWords = codes "TooManyWords"
kind_name TooManyRoots = codes "TooManyRoots"
kind_name Long = codes "Long"
kind_name Overrun = codes "Overrun"
kind_name TooManyObjects = codes "TooManyObjects"
kind_name BadRef = codes "BadRef"
kind_name BadRoot = codes "BadRoot"

-- the name of a refusal of the core
abbrev pub refusal_name : Refused → List ℕ
refusal_name NoCaller = codes "NoCaller"
refusal_name NoRoom = codes "NoRoom"
refusal_name NotFree = codes "NotFree"
refusal_name NotIn = codes "NotIn"
refusal_name Stuck = codes "Stuck"
refusal_name Spent = codes "Spent"

-- one line for each status that is a refusal
abbrev pub note_of : Status → List ℕ
note_of Good = []
note_of Words = codes "words\n"
note_of (Image fault) =
    codes "image " ++ kind_name fault.kind ++ codes " place " ++ decimal fault.place ++ codes " value " ++ decimal fault.value ++ codes "\n"
note_of ReadFault = codes "read fault\n"
note_of WriteFault = codes "write fault\n"
note_of (Script line) = codes "script line " ++ decimal line ++ codes "\n"
note_of (Act at why) = codes "act " ++ decimal at ++ codes " " ++ refusal_name why ++ codes "\n"
note_of TooLong = codes "text too long\n"
note_of Memory = codes "out of memory\n"

-- the status of a refusal of an image
abbrev pub of_read : ReadImage → Status
of_read (read.Fault fault) = Image fault
of_read read.Memory = Memory
