use Rattle.std.proofs.Common.{◌≡◌, ◌∙◌, ◌∷◌, [], inl, inr, cond, None, ap, map, sym, subst, string_bytes}
use Rattle.clap.specs.Words.{App, HasKind, IsAmong, app_of, fault_of, is_simple, is_simple_and_free, kind_of, subcommand_of}
use Rattle.command_words.specs.Command.{asked, office_app}
use Rattle.command_words.specs.Words.{subcommand_in, subcommand_of_words}
use Rattle.command_words.proofs.AllWords.{reads}
use Rattle.command_words.proofs.Entering.{office_is_simple, office_is_simple_and_free}
use Rattle.command_words.proofs.reading.subcommand_in.Goals as goal

pub returns-in-Ok-clause-exact : goal.returns-in-Ok-clause-exact
returns-in-Ok-clause-exact c =
    let words = map string_bytes c.args.words.now in
    let app : app_of c.in_ok-office.office ≡ office_app = c.in_ok-office.ensures in
    let plain = sym c.has_hyphens.ensures ∙ c.if-has_hyphens.false in
    let whole : subcommand_in words ≡ subcommand_of_words words = ap (λ b. cond b None (subcommand_of_words words)) plain in
    let rows = (c.in-Ok.ensures.matches (ap is_simple app ∙ office_is_simple)).1 ∙ ap (λ a. subcommand_of a words) app in
    let passed = ap (λ a. fault_of a words) (sym app) ∙ c.in-Ok.ensures.kinds (ap is_simple_and_free app ∙ office_is_simple_and_free) in
    elim (reads words plain) [
      | inl taken ↦ c.asked.ensures.exact ∙ ap asked rows ∙ taken.1 ∙ sym whole
      | inr refused ↦
          let (k, ks, fault, none) = refused in
          let never : k ∷ ks ≡ [] = sym fault ∙ passed in
          absurd (cc never)
    ]

pub returns-clause-exact : goal.returns-clause-exact
returns-clause-exact c =
    let words = map string_bytes c.args.words.now in
    let app : app_of c.in_ok-office.office ≡ office_app = c.in_ok-office.ensures in
    let plain = sym c.has_hyphens.ensures ∙ c.if-has_hyphens.false in
    let whole : subcommand_in words ≡ subcommand_of_words words = ap (λ b. cond b None (subcommand_of_words words)) plain in
    let fails = subst (λ (a : App). HasKind (fault_of a words) c.in-Err.error) app (c.in-Err.ensures.kinds (ap is_simple_and_free app ∙ office_is_simple_and_free)) in
    elim fails [
      | inl memory ↦ absurd (c.in_default.not-OutOfMemory (c.kind.ensures ∙ memory))
      | inr among ↦ elim (reads words plain) [
        | inl taken ↦ absurd (subst (IsAmong (kind_of c.in-Err.error)) taken.0 among)
        | inr refused ↦ sym (whole ∙ refused.3)
      ]
    ]
