-- What an answer says of the bytes that were read, and of what was made of them.
use Rattle.std.proofs.Common.{◌≡◌, ◌≢◌, ◌⊎◌, ℕ, ◌+◌, List, take, IfOk, IfErr, IfSome, Some, None, Ok, Err, Vec, Global, refl, inl, inr, sym, subst, ◌∙◌}
use Rattle.std.specs.declared.option.Option.{Option}
use Rattle.std.specs.declared.result.Result.{Result}
use Rattle.std.specs.Io.KnownBytes.{Appends}
use Rattle.room_io.specs.Causes.{Rose, AppendsPrefix}
use Rattle.rooms_program.specs.Commands.{Reads, most_bytes, Accepts, IsOutput, Refuses}
use Rattle.rooms_program.specs.Runs.{WasRead, Makes, Wrote, WasRefused, IsAnswered, IsRefusal, Leaves}
use Rattle.rooms_program.specs.Limits.{Is}
use Rattle.command_words.specs.declared.command.Command.{Command}
use Rattle.rooms_program.specs.declared.status.Status.{Status}
use Rattle.rooms_program.specs.declared.status.Status.TheVariants.{Good, Words, ReadFault, WriteFault, Memory}
use Rattle.rooms_program.proofs.Inputs.{unread_accepts, refusing_reads, read_to_end, read_accepted}

-- what is made of an input: an output, or why there is none
abbrev Made : Type 0
Made = Result (Vec ℕ Global) Status

-- why there is none
abbrev IsWhy : Command → List ℕ → Status → Type 0
IsWhy command bytes why = (why ≡ Memory) ⊎ (IsRefusal why × Refuses command bytes why)

-- want of memory is why
pub made_why : (command : Command) (bytes : List ℕ) (made : Made) → IfErr made (λ why. why ≡ Memory) → IfErr made (IsWhy command bytes)
made_why command bytes (Ok output) memory = tt
made_why command bytes (Err why) memory = inl memory

module _ (command : Command) (left now_left : Option (List ℕ)) (bytes : List ℕ) (answer : Status)
    (read : Reads command → WasRead (most_bytes command) left now_left bytes) where
  -- a refusal is of the bytes that were read
  was_refused : (B : Type 0) (made : Made) → IfErr made (IsWhy command bytes)
      → IfOk made (λ _. (answer ≡ Good) ⊎ ((answer ≡ WriteFault) × B)) → IfErr made (λ why. answer ≡ why)
      → IsRefusal answer → WasRefused command left now_left answer
  was_refused B (Ok output) why wrote same refusal =
      absurd (elim wrote [ inl good ↦ subst IsRefusal good refusal | inr fault ↦ subst IsRefusal fault.0 refusal ])
  was_refused B (Err e) why wrote same refusal =
      elim why [
        | inl m ↦ absurd (subst IsRefusal (same ∙ m) refusal)
        | inr r ↦ record { bytes = bytes; read = read (refusing_reads command bytes e r.1); refuses = subst (Refuses command bytes) (sym same) r.1 }
      ]

  module _ (written now_written : Option (List ℕ)) where
    -- where the answer is one that tells what was written, an output was made, and the sink gained of it what that answer tells
    wrote_out : (Gained : Option (List ℕ) → Option (List ℕ) → List ℕ → Type 0) (this : Status) → this ≢ Memory → ¬ IsRefusal this
        → (made : Made) → IfOk made (λ output. IsOutput command bytes output.items) → IfErr made (IsWhy command bytes)
        → IfOk made (λ output. answer ≡ this → Gained written now_written output.items) → IfErr made (λ why. answer ≡ why)
        → answer ≡ this → Wrote Gained command left now_left written now_written
    wrote_out Gained this no_memory no_refusal (Ok output) defined why wrote same is = record {
      input = bytes;
      output = output.items;
      taken = λ reads. (read reads).taken;
      ended = λ reads. read_to_end command left now_left bytes output.items reads (read reads) defined;
      defined = defined;
      wrote = wrote is;
    }
    wrote_out Gained this no_memory no_refusal (Err e) defined why wrote same is =
        absurd (elim why [ inl m ↦ no_memory (sym is ∙ same ∙ m) | inr r ↦ no_refusal (subst IsRefusal (sym same ∙ is) r.0) ])

module _ (B : Type 0) (answer : Status) where
  -- where there is no cause but want of memory, and no write failed, the answer is good or tells that want
  answer_accepted : (made : Made) → IfErr made (λ why. why ≡ Memory)
      → IfOk made (λ _. (answer ≡ Good) ⊎ ((answer ≡ WriteFault) × B)) → IfErr made (λ why. answer ≡ why)
      → ¬ B → (answer ≡ Good) ⊎ (answer ≡ Memory)
  answer_accepted (Ok output) only wrote same no_write =
      elim wrote [ inl good ↦ inl good | inr fault ↦ absurd (no_write fault.1) ]
  answer_accepted (Err e) only wrote same no_write = inr (same ∙ only)

  -- where a cause is told, it is the answer
  answer_refused : (made : Made) (why : Status) → (made ≡ Err why) ⊎ (made ≡ Err Memory)
      → IfErr made (λ e. answer ≡ e) → (answer ≡ why) ⊎ (answer ≡ Memory)
  answer_refused (Ok output) why told same = absurd (elim told [ inl e ↦ cc | inr e ↦ cc ])
  answer_refused (Err e) why told same = elim told [ inl is ↦ inl cc | inr is ↦ inr cc ]

  -- the answer that an input gets is that of the bytes that were read of it
  answered : (A : Type 0) (command : Command) (left : Option (List ℕ)) (bytes : List ℕ) (made : Made)
      → (Reads command → IfSome left (λ input. bytes ≡ take (most_bytes command + 1) input))
      → (Accepts command bytes → IfErr made (λ why. why ≡ Memory))
      → ((why : Status) → Refuses command bytes why → (made ≡ Err why) ⊎ (made ≡ Err Memory))
      → IfOk made (λ _. (answer ≡ Good) ⊎ ((answer ≡ WriteFault) × B)) → IfErr made (λ why. answer ≡ why)
      → IfSome left (λ input. ¬ A → ¬ B → IsAnswered command input answer)
  answered A command None bytes made known accepts refuses wrote same = tt
  answered A command (Some input) bytes made known accepts refuses wrote same = λ no_read no_write.
      record {
        accepts = λ a. answer_accepted made (accepts (read_accepted command input bytes known a)) wrote same no_write;
        refuses = λ why r.
            let P : List ℕ → Type 0 = λ b. Refuses command b why in
            answer_refused made why (refuses why (subst P (sym (known (refusing_reads command _ why r))) r)) same;
      }

-- what holds of good, of a failed write, of want of memory and of each refusal of the bytes holds of the answer
module _ (command : Command) (bytes : List ℕ) (answer : Status) (B : Type 0) where
  ended : (P : Status → Type 0) → P Good → (B → P WriteFault) → P Memory → ((why : Status) → IsRefusal why → P why)
      → (made : Made) → IfErr made (IsWhy command bytes) → IfOk made (λ _. (answer ≡ Good) ⊎ ((answer ≡ WriteFault) × B))
      → IfErr made (λ why. answer ≡ why) → P answer
  ended P good fault memory refusal (Ok output) why wrote same =
      elim wrote [ inl is ↦ subst P (sym is) good | inr is ↦ subst P (sym is.0) (fault is.1) ]
  ended P good fault memory refusal (Err e) why wrote same =
      let h : P e = elim why [ inl is ↦ subst P (sym is) memory | inr r ↦ refusal e r.0 ] in
      subst P (sym same) h

-- where neither an output was written nor a part of one, the sink is as it was
kept : {K : Type 0} (sink now_sink : K) (answer : Status) (B : Type 0) (made : Made) → IfErr made (λ _. now_sink ≡ sink)
    → IfOk made (λ _. (answer ≡ Good) ⊎ ((answer ≡ WriteFault) × B)) → answer ≢ Good → answer ≢ WriteFault → now_sink ≡ sink
kept sink now_sink answer B (Ok output) same wrote no_good no_fault =
    absurd (elim wrote [ inl good ↦ no_good good | inr fault ↦ no_fault fault.0 ])
kept sink now_sink answer B (Err e) same wrote no_good no_fault = same

-- what holds of a command holds of each that is this one
for_this : (P : Command → Type 0) (this : Command) → P this → (told : Command) → Is this told → P told
for_this P this h told is = subst P (sym is) h

-- and of the one that it is
for_some : (P : Command → Type 0) (this other : Command) → Some this ≡ Some other → P this → P other
for_some P this other is h = let same : this ≡ other = cc in subst P same h

-- want of memory answers each input
wanting_answer : (command : Command) (left : Option (List ℕ)) (A B : Type 0) → IfSome left (λ input. ¬ A → ¬ B → IsAnswered command input Memory)
wanting_answer command None A B = tt
wanting_answer command (Some input) A B = λ _ _. record { accepts = λ _. inr refl; refuses = λ _ _. inr refl }

-- where no read failed, a run without an input was wanting memory
unread_answer : (command : Command) (left : Option (List ℕ)) (answer : Status) (A B : Type 0) → (answer ≡ Memory) ⊎ ((answer ≡ ReadFault) × Reads command × A)
    → IfSome left (λ input. ¬ A → ¬ B → IsAnswered command input answer)
unread_answer command left answer A B (inl m) = subst (λ s. IfSome left (λ input. ¬ A → ¬ B → IsAnswered command input s)) (sym m) (wanting_answer command left A B)
unread_answer command None answer A B (inr f) = tt
unread_answer command (Some input) answer A B (inr f) = λ no_read _. absurd (no_read f.2)

module _ {S K : Type 0} (left : S → Option (List ℕ)) (read_faults : S → ℕ) (written : K → Option (List ℕ)) (write_faults : K → ℕ) where
  module _ (source now_source : S) (sink now_sink : K) (answer : Status) where
    -- a run that reads an input, makes what it is to write of it, and writes that, leaves what it should
    pub performed : (command : Command) (bytes : List ℕ) (made : Made)
        → (Reads command → WasRead (most_bytes command) (left source) (left now_source) bytes)
        → (Reads command → IfSome (left source) (λ input. bytes ≡ take (most_bytes command + 1) input))
        → (¬ Reads command → now_source ≡ source)
        → Makes command bytes made
        → IfOk made (λ output. answer ≡ Good → Appends (written sink) (written now_sink) output.items)
        → IfOk made (λ output. answer ≡ WriteFault → AppendsPrefix (written sink) (written now_sink) output.items)
        → IfOk made (λ _. (answer ≡ Good) ⊎ ((answer ≡ WriteFault) × Rose (write_faults sink) (write_faults now_sink)))
        → IfErr made (λ why. answer ≡ why) → IfErr made (λ _. now_sink ≡ sink)
        → Leaves left read_faults written write_faults (Is command) source now_source sink now_sink answer
    performed command bytes made read known unread makes good cut wrote same unwritten =
        let B = Rose (write_faults sink) (write_faults now_sink) in
        let no_words : answer ≢ Words = ended command bytes answer B (λ s. s ≢ Words) (λ e. cc) (λ _ e. cc) (λ e. cc) (λ s r e. subst IsRefusal e r) made makes.why wrote same in
        let no_read : answer ≢ ReadFault = ended command bytes answer B (λ s. s ≢ ReadFault) (λ e. cc) (λ _ e. cc) (λ e. cc) (λ s r e. subst IsRefusal e r) made makes.why wrote same in
        record {
          words = λ e. absurd (no_words e);
          unnamed = λ none. absurd (none command refl);
          unread = λ none. unread (none command refl);
          good = for_this _ command (wrote_out command (left source) (left now_source) bytes answer read (written sink) (written now_sink) Appends Good (λ e. cc) (λ r. r) made makes.output makes.why good same);
          refused = for_this _ command (was_refused command (left source) (left now_source) bytes answer read B made makes.why wrote same);
          read = λ e. absurd (no_read e);
          reader = λ _ _ e. absurd (no_read e);
          write = ended command bytes answer B (λ s. s ≡ WriteFault → B) (λ e. absurd (cc)) (λ b e. b) (λ e. absurd (cc)) (λ s r e. absurd (subst IsRefusal e r)) made makes.why wrote same;
          cut = for_this _ command (wrote_out command (left source) (left now_source) bytes answer read (written sink) (written now_sink) AppendsPrefix WriteFault (λ e. cc) (λ r. r) made makes.output makes.why cut same);
          unwritten = kept sink now_sink answer B made unwritten wrote;
          complete = for_this _ command (answered B answer (Rose (read_faults source) (read_faults now_source)) command (left source) bytes made known makes.accepts makes.refuses wrote same);
          made = for_this _ command (λ no_reads. answer_accepted B answer made (makes.accepts (unread_accepts command no_reads bytes)) wrote same);
        }

    -- and where it was told this one command, it leaves what that tells
    pub told : (Told : Command → Type 0) (this : Command) → Told this → ((other : Command) → Told other → Some this ≡ Some other)
        → Leaves left read_faults written write_faults (Is this) source now_source sink now_sink answer
        → Leaves left read_faults written write_faults Told source now_source sink now_sink answer
    told Told this is once run =
        let each : (P : Command → Type 0) → P this → (other : Command) → Told other → P other = λ P h other o. for_some P this other (once other o) h in
        record {
          words = λ e. absurd (run.words e this refl);
          unnamed = λ none. absurd (none this is);
          unread = λ none. run.unread (for_this (λ c. ¬ Reads c) this (none this is));
          good = each _ (run.good this refl);
          refused = each _ (run.refused this refl);
          read = run.read;
          reader = each _ (run.reader this refl);
          write = run.write;
          cut = each _ (run.cut this refl);
          unwritten = run.unwritten;
          complete = each _ (run.complete this refl);
          made = each _ (run.made this refl);
        }

  module _ (source now_source : S) (sink : K) where
    -- a run that had no input leaves its sink as it was
    pub without_input : (command : Command) (answer : Status) → (¬ Reads command → now_source ≡ source)
        → (answer ≡ Memory) ⊎ ((answer ≡ ReadFault) × Reads command × Rose (read_faults source) (read_faults now_source))
        → Leaves left read_faults written write_faults (Is command) source now_source sink sink answer
    without_input command answer unread why =
        let R = Rose (read_faults source) (read_faults now_source) in
        let is : (P : Status → Type 0) → P Memory → (Reads command → R → P ReadFault) → P answer =
        λ P memory fault. elim why [ inl m ↦ subst P (sym m) memory | inr f ↦ subst P (sym f.0) (fault f.1 f.2) ] in
        let no_good : answer ≢ Good = is (λ s. s ≢ Good) (λ e. cc) (λ _ _ e. cc) in
        let no_write : answer ≢ WriteFault = is (λ s. s ≢ WriteFault) (λ e. cc) (λ _ _ e. cc) in
        let no_refusal : ¬ IsRefusal answer = is (λ s. ¬ IsRefusal s) (λ r. r) (λ _ _ r. r) in
        record {
          words = is (λ s. s ≡ Words → (other : Command) → ¬ Is command other) (λ e. absurd (cc)) (λ _ _ e. absurd (cc));
          unnamed = λ none. absurd (none command refl);
          unread = λ none. unread (none command refl);
          good = λ _ _ e. absurd (no_good e);
          refused = λ _ _ r. absurd (no_refusal r);
          read = is (λ s. s ≡ ReadFault → R) (λ e. absurd (cc)) (λ _ rose _. rose);
          reader = for_this _ command (is (λ s. s ≡ ReadFault → Reads command) (λ e. absurd (cc)) (λ reads _ _. reads));
          write = λ e. absurd (no_write e);
          cut = λ _ _ e. absurd (no_write e);
          unwritten = λ _ _. refl;
          complete = for_this _ command (unread_answer command (left source) answer R (Rose (write_faults sink) (write_faults sink)) why);
          made = for_this _ command (λ no_reads _. elim why [ inl m ↦ inr m | inr f ↦ absurd (no_reads f.1) ]);
        }

  module _ (Told : Command → Type 0) (source : S) (sink : K) where
    -- a run for which memory was wanting before it read
    pub wanting : Leaves left read_faults written write_faults Told source source sink sink Memory
    wanting = record {
      words = λ e. absurd (cc);
      unnamed = λ _. inr refl;
      unread = λ _. refl;
      good = λ _ _ e. absurd (cc);
      refused = λ _ _ r. absurd r;
      read = λ e. absurd (cc);
      reader = λ _ _ e. absurd (cc);
      write = λ e. absurd (cc);
      cut = λ _ _ e. absurd (cc);
      unwritten = λ _ _. refl;
      complete = λ command _. wanting_answer command (left source) _ _;
      made = λ _ _ _ _. inr refl;
    }

    -- and one that was told no command
    pub untold : ((command : Command) → ¬ Told command) → Leaves left read_faults written write_faults Told source source sink sink Words
    untold none = record {
      words = λ _. none;
      unnamed = λ _. inl refl;
      unread = λ _. refl;
      good = λ command is. absurd (none command is);
      refused = λ command is. absurd (none command is);
      read = λ e. absurd (cc);
      reader = λ command is. absurd (none command is);
      write = λ e. absurd (cc);
      cut = λ command is. absurd (none command is);
      unwritten = λ _ _. refl;
      complete = λ command is. absurd (none command is);
      made = λ command is. absurd (none command is);
    }
