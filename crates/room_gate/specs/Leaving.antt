-- What leaving, exit code and passing on change.
use Rattle.std.specs.Prelude.{◌≡◌}
use Rattle.room_gate.specs.Shows.{Insider, KeyHolder}

module _ {S V : Type 0} where
  -- the caller that was inside has the key of its opening
  pub record HasKeyOf (i : Insider S V) (k : KeyHolder V) : Type 0 where
    pub caller : k.caller ≡ record i.caller { done = k.caller.done }
    pub opening : k.opening ≡ i.opening

-- nothing is changed but the user view and the user words
abbrev pub KeepsKey : {V : Type 0} → KeyHolder V → KeyHolder V → Type 0
KeepsKey before after = after ≡ record before {
  caller = record before.caller { user = after.caller.user };
  words = after.words;
}
