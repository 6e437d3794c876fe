use Rattle.std.proofs.Common.{◌∙◌, List, [], ◌∷◌, ◌++◌, map, ap, sym}
use Rattle.std.proofs.lemmas.List.{map-append}
use Rattle.std.specs.Option.{option_to_list}
use Rattle.desk_history.specs.declared.views.PassView.{PassView}
use Rattle.office_server.proofs.seats.gathered.Goals as goal

pub returns-clause-passes : goal.returns-clause-passes
returns-clause-passes g c =
    let whole = c.pop.ensures.items ∙ ap (λ last. c.pop.new.self.items ++ option_to_list last) c.unwrap-pass.ensures in (
      c.unwrap-pass.result.pass,
      ap (map (λ seat. seat.pass)) whole
          ∙ (map-append (λ seat. seat.pass) c.pop.new.self.items (c.unwrap-pass.result ∷ [])
          ∙ ap (λ (them : List PassView). them ++ c.unwrap-pass.result.pass ∷ []) (sym c.passes_back.ensures)),
      c.learn_log.ensures.learned,
    )
