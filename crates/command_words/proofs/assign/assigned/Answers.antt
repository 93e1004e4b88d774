use Rattle.std.proofs.Common.{◌≡◌, [], inl, inr, rules, map, string_bytes, subst}
use Rattle.clap.specs.Words.{Kinds, HasKind, kind_of}
use Rattle.clap.specs.declared.error.Error.{Error}
use Rattle.clap.specs.declared.error.kind.ErrorKind.TheVariants.{OutOfMemory}
use Rattle.command_words.proofs.Assigned.{texts_assigned, none_assigned}
use Rattle.command_words.proofs.assign.assigned.Goals as goal

-- an error where there is no fault is want of memory
memory_alone : (kinds : Kinds) (error : Error) → HasKind kinds error → kinds ≡ [] → kind_of error ≡ OutOfMemory
memory_alone kinds error has none = go (subst (λ ks. HasKind ks error) none has)
  where
    go : HasKind [] error → kind_of error ≡ OutOfMemory
    go (inl is) = is
    go (inr is) = absurd is

pub returns-in-Ok : goal.returns-in-Ok
returns-in-Ok c = λ parts are.
    let words = map string_bytes c.args.words.now in
    texts_assigned words parts are c.texts_of.result c.in-Ok.ensures.faults (c.texts_of.ensures words c.in-Ok.ensures.matches)

pub returns : goal.returns
returns c = λ parts are a.
    none_assigned (map string_bytes c.args.words.now) parts are (λ none.
    let memory : kind_of c.in-Err.error ≡ OutOfMemory = memory_alone _ c.in-Err.error c.in-Err.ensures.faults none in
    let k = c.kind.ensures in
    let e = c.eq.ensures in
    let f = c.if-eq.false in
    search (rules, memory)) a
