-- The texts of entries and of contents.
use Rattle.std.specs.Prelude.{ℕ, List, ◌++◌, codes, decimal}
use Rattle.std.specs.List.{flat_map}
use Rattle.bay_core.specs.declared.calls.Op.{Op}
use Rattle.bay_core.specs.declared.calls.Op.TheVariants.{Push, Pop, Enq, Deq, Peek, Sizes}
use Rattle.bay_core.specs.declared.calls.Reply.{Reply}
use Rattle.bay_core.specs.declared.calls.Reply.TheVariants.{Done, Full, Item, Empty}
use Rattle.bay_core.specs.declared.calls.Reply.TheVariants as replies
use Rattle.bay_core.specs.declared.calls.Entry.{Entry}
use Rattle.bay_core.specs.Contents.{Contents}

-- what is called, with the item of a push or an enqueue
abbrev pub call_words : Op → ℕ → List ℕ
call_words Push item = codes "push " ++ decimal item
call_words Pop item = codes "pop -"
call_words Enq item = codes "enq " ++ decimal item
call_words Deq item = codes "deq -"
call_words Peek item = codes "peek -"
call_words Sizes item = codes "sizes -"

-- what is answered
abbrev pub reply_word : Reply → List ℕ
reply_word Done = codes "ok"
reply_word Full = codes "full"
reply_word (Item item) = decimal item
reply_word Empty = codes "empty"
reply_word (replies.Sizes stack queue) = decimal stack ++ (codes "/" ++ decimal queue)

-- an entry up to its reply: the turn, the rank, the caller and the call
abbrev pub front_words : Entry → List ℕ
front_words e =
    decimal e.turn ++ (codes " " ++ (decimal e.rank ++ (codes " " ++ (decimal e.who
    ++ (codes " " ++ (call_words e.op e.arg ++ codes " "))))))

-- a reply at the end of its line
abbrev pub reply_end : Reply → List ℕ
reply_end reply = reply_word reply ++ codes "\n"

-- the line of an entry
abbrev pub entry_line : Entry → List ℕ
entry_line e = front_words e ++ reply_end e.reply

-- items with a space before each
abbrev pub items_text : List ℕ → List ℕ
items_text items = flat_map (λ item. codes " " ++ decimal item) items

-- the lines of a stack, its bottom first, and of a queue, its oldest first
abbrev pub lists_text : List ℕ → List ℕ → List ℕ
lists_text stack queue =
    codes "stack" ++ (items_text stack ++ (codes "\nqueue" ++ (items_text queue ++ codes "\n")))

-- the lines of the lists of a bay
abbrev pub state_text : Contents → List ℕ
state_text s = lists_text s.stack s.queue
