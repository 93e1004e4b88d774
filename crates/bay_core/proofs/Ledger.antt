-- The ledger of each list of a bay: what was put there was taken or is left, as often.
use Rattle.std.proofs.Common.{◌≡◌, ℕ, ◌+◌, ◌-◌, Bool, true, false, List, [], ◌∷◌, ◌++◌, length, take, drop, refl, sym, ap, ◌∙◌, arith}
use Rattle.std.proofs.lemmas.List.{take_all, take_more}
use Rattle.bay_core.specs.declared.calls.Op.{Op}
use Rattle.bay_core.specs.declared.calls.Op.TheVariants.{Push, Pop, Enq, Deq, Peek, Sizes}
use Rattle.bay_core.specs.declared.calls.Reply.{Reply}
use Rattle.bay_core.specs.declared.calls.Noted.{Noted}
use Rattle.bay_core.specs.Contents.{Contents, last_of, front_of}
use Rattle.bay_core.specs.Lawful.{applied}
use Rattle.bay_core.specs.Noted.{entry_in, after, entries, reply_in}
use Rattle.bay_core.specs.Times.{times}
use Rattle.bay_core.specs.Ledger.{put_by, took_by, put_of, took_of, all_put, all_taken}
use Rattle.bay_core.proofs.Counts.{times-none, times-append}

-- a list that has an item is its front and its last item
front_last : (x : ℕ) (xs : List ℕ) → front_of (x ∷ xs) ++ last_of (x ∷ xs) ∷ [] ≡ x ∷ xs
front_last x xs =
    let more : length (x ∷ xs) - 1 + 1 ≡ length (x ∷ xs) = omega arith in
    sym (take_more (x ∷ xs) (length (x ∷ xs) - 1) 0 (omega arith))
    ∙ (ap (λ k. take k (x ∷ xs)) more ∙ take_all (length (x ∷ xs)) (x ∷ xs) (omega arith))

-- one call: what was there and what it put is what is there and what it took
abbrev Balances : (before now put took : List ℕ) → Type 0
Balances before now put took = (n : ℕ) → times n before + times n put ≡ times n now + times n took

still : (xs : List ℕ) → Balances xs xs [] []
still xs n = refl

adds : (xs : List ℕ) (x : ℕ) → Balances xs (xs ++ x ∷ []) (x ∷ []) []
adds xs x n = omega (arith, times-append n xs (x ∷ []), times-none n)

takes_last : (x : ℕ) (xs : List ℕ) → Balances (x ∷ xs) (front_of (x ∷ xs)) [] (last_of (x ∷ xs) ∷ [])
takes_last x xs n =
    omega (
      arith,
      times-append n (front_of (x ∷ xs)) (last_of (x ∷ xs) ∷ []),
      ap (times n) (front_last x xs),
      times-none n,
    )

takes_first : (x : ℕ) (xs : List ℕ) → Balances (x ∷ xs) (drop 1 (x ∷ xs)) [] (x ∷ [])
takes_first x xs n = omega (arith, times-append n (x ∷ []) xs, times-none n)

abbrev state : List ℕ → List ℕ → ℕ → Contents
state stack queue taken = record { stack = stack; queue = queue; taken = taken }

-- the stack
abbrev OnStack : Contents → Op → ℕ → Reply → Type 0
OnStack s op x reply = Balances s.stack (applied s op x reply).stack (put_by Push op x reply) (took_by Pop op reply)

on_stack : (op : Op) (x : ℕ) (stored : Bool) (stack queue : List ℕ) (taken : ℕ)
    → OnStack (state stack queue taken) op x (reply_in (state stack queue taken) op stored)
on_stack Push x true stack queue taken = adds stack x
on_stack Push x false stack queue taken = still stack
on_stack Pop x stored [] queue taken = still []
on_stack Pop x stored (y ∷ ys) queue taken = takes_last y ys
on_stack Enq x true stack queue taken = still stack
on_stack Enq x false stack queue taken = still stack
on_stack Deq x stored stack [] taken = still stack
on_stack Deq x stored stack (y ∷ ys) taken = still stack
on_stack Peek x stored [] queue taken = still []
on_stack Peek x stored (y ∷ ys) queue taken = still (y ∷ ys)
on_stack Sizes x stored stack queue taken = still stack

pub stack_ledger : (h : List Noted) (n : ℕ)
    → times n (all_put Push (entries h)) ≡ times n (all_taken Pop (entries h)) + times n (after h).stack
stack_ledger [] n = omega (arith, times-none n)
stack_ledger (m ∷ h) n =
    let e = entry_in (after h) m in let s = after h in
    let step = on_stack m.op m.arg m.stored s.stack s.queue s.taken n in
    omega (
      arith,
      step,
      stack_ledger h n,
      times-append n (put_of Push e) (all_put Push (entries h)),
      times-append n (took_of Pop e) (all_taken Pop (entries h)),
    )

-- the queue
abbrev InQueue : Contents → Op → ℕ → Reply → Type 0
InQueue s op x reply = Balances s.queue (applied s op x reply).queue (put_by Enq op x reply) (took_by Deq op reply)

in_queue : (op : Op) (x : ℕ) (stored : Bool) (stack queue : List ℕ) (taken : ℕ)
    → InQueue (state stack queue taken) op x (reply_in (state stack queue taken) op stored)
in_queue Push x true stack queue taken = still queue
in_queue Push x false stack queue taken = still queue
in_queue Pop x stored [] queue taken = still queue
in_queue Pop x stored (y ∷ ys) queue taken = still queue
in_queue Enq x true stack queue taken = adds queue x
in_queue Enq x false stack queue taken = still queue
in_queue Deq x stored stack [] taken = still []
in_queue Deq x stored stack (y ∷ ys) taken = takes_first y ys
in_queue Peek x stored [] queue taken = still queue
in_queue Peek x stored (y ∷ ys) queue taken = still queue
in_queue Sizes x stored stack queue taken = still queue

pub queue_ledger : (h : List Noted) (n : ℕ)
    → times n (all_put Enq (entries h)) ≡ times n (all_taken Deq (entries h)) + times n (after h).queue
queue_ledger [] n = omega (arith, times-none n)
queue_ledger (m ∷ h) n =
    let e = entry_in (after h) m in let s = after h in
    let step = in_queue m.op m.arg m.stored s.stack s.queue s.taken n in
    omega (
      arith,
      step,
      queue_ledger h n,
      times-append n (put_of Enq e) (all_put Enq (entries h)),
      times-append n (took_of Deq e) (all_taken Deq (entries h)),
    )
