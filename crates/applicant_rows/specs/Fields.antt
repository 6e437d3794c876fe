-- The fields of a record, by their names.
use Rattle.std.specs.Prelude.{ℕ, List, [], ◌∷◌}
use Rattle.applicant_rows.specs.declared.fields.Fields.{Fields}

abbrev pub listed : Fields → List (List ℕ)
listed fields =
    fields.request.now ∷ fields.name.now ∷ fields.size.now ∷ fields.persons.now ∷ fields.accessible.now
    ∷ fields.preferences.now ∷ fields.annual.now ∷ []
