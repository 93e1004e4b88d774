use Rattle.std.proofs.Common.{◌∷◌, [], ◌++◌, length, map, sym, ap, ◌∙◌, arith}
use Rattle.std.proofs.lemmas.List.{map-append, length-append}
use Rattle.std.proofs.lemmas.List.FromFn.{map-range_with_len_more}
use Rattle.std.specs.Global.{Vec}
use Rattle.room_script.specs.declared.trials.Line.{Line}
use Rattle.bay_crew.specs.Mixes.{script_of, scripts_of}
use Rattle.bay_crew.proofs.scripts.scripts.Goals as goal

pub loop-who-preserved : goal.loop-who-preserved
loop-who-preserved c =
    let who = c.loop-who.who in let past = c.loop-who.scripts.items in
    let next = c.in_ok-next.next in
    record {
      len = ap length c.in_ok-push.ensures.items
          ∙ omega (arith, length-append past (next ∷ []), c.loop-who.invariant.len);
      each = ap (map (λ (script : Vec Line). script.items)) c.in_ok-push.ensures.items
          ∙ (map-append (λ (script : Vec Line). script.items) past (next ∷ [])
          ∙ (ap (λ scripts. scripts ++ next.items ∷ []) c.loop-who.invariant.each
          ∙ (ap (λ script. scripts_of c.args.mix who c.args.calls ++ script ∷ []) c.in_ok-next.ensures
          ∙ sym (map-range_with_len_more (script_of c.args.mix c.args.calls) 0 who who (omega arith)))));
    }
