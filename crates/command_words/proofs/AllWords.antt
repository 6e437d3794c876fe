-- For all words without hyphens: what the parse finds wrong, or what it finds, is what the table of words says.
use Rattle.std.proofs.Common.{◌≡◌, ◌∙◌, ◌⊎◌, true, false, refl, sym, ap, subst, inl, inr, List, [], ◌∷◌, None, codes}
use Rattle.std.specs.Str.{bytes_eq}
use Rattle.std.specs.List.{list_any}
use Rattle.std.proofs.lemmas.Bool.{cases_Bool, or_parts, false_from_ne_true, true≢false}
use Rattle.std.proofs.lemmas.Slice.Eq.{bytes_eq-Decides}
use Rattle.clap.specs.Walk.{Text, idle, subcommand_met}
use Rattle.clap.specs.Simple.{subcommand_of}
use Rattle.clap.specs.Kinds.{Kinds}
use Rattle.clap.specs.Faults.{fault_of}
use Rattle.clap.specs.declared.error.kind.ErrorKind.{ErrorKind}
use Rattle.clap.specs.declared.error.kind.ErrorKind.TheVariants as kind
use Rattle.clap.proofs.OnLiterals.{clap_on_literals}
use Rattle.command_words.specs.Command.{asked, asked_by, office_app}
use Rattle.command_words.specs.Words.{begins_with_hyphen, subcommand_alone, subcommand_of_words, subcommand_with}
use Rattle.command_words.proofs.Level.{IsPlain, alone, alone_more, alone_none, alone_reads, plain_word, valued, valued_more, valued_none, valued_one, valued_reads}
use Rattle.command_words.proofs.Entering.{Enters, enters_fault, enters_rows, no_words, office_names, unknown}

-- the parse reads the words as the table does
abbrev pub Reads : List Text → Type 0
Reads words =
    ((fault_of office_app words ≡ []) × (asked (subcommand_of office_app words) ≡ subcommand_of_words words))
    ⊎ ((k : ErrorKind) × (ks : Kinds) × (fault_of office_app words ≡ k ∷ ks) × (subcommand_of_words words ≡ None))

abbrev HasNoHyphens : List Text → Type 0
HasNoHyphens words = list_any begins_with_hyphen words ≡ false

first_plain : (word : Text) (rest : List Text) → HasNoHyphens (word ∷ rest) → IsPlain word
first_plain word rest e = plain_word word (or_parts (begins_with_hyphen word) (list_any begins_with_hyphen rest) e).0

rest_plain : (word : Text) (rest : List Text) → HasNoHyphens (word ∷ rest) → HasNoHyphens rest
rest_plain word rest e = (or_parts (begins_with_hyphen word) (list_any begins_with_hyphen rest) e).1

-- ---- the words that stand alone

reads_alone : (name : Text) → Enters name (alone name) → ((value : Text) → subcommand_with name value ≡ None)
    → (rest : List Text) → HasNoHyphens rest → Reads (name ∷ rest)
reads_alone name enters no_value [] plain =
    inl (
      enters_fault name (alone name) [] enters ∙ alone_none name,
      ap asked (enters_rows name (alone name) [] enters) ∙ ap (asked_by name) (alone_reads name),
    )
reads_alone name enters no_value (word ∷ []) plain =
    inr (kind.UnknownArgument, [], enters_fault name (alone name) (word ∷ []) enters ∙ alone_more name word [] (first_plain word [] plain), no_value word)
reads_alone name enters no_value (word ∷ other ∷ others) plain =
    inr (
      kind.UnknownArgument,
      [],
      enters_fault name (alone name) (word ∷ other ∷ others) enters
          ∙ alone_more name word (other ∷ others) (first_plain word (other ∷ others) plain),
      refl,
    )

-- ---- the words with a value

reads_valued : (name : Text) → Enters name (valued name) → subcommand_alone name ≡ None
    → (rest : List Text) → HasNoHyphens rest → Reads (name ∷ rest)
reads_valued name enters not_alone [] plain =
    inr (kind.MissingRequiredArgument, [], enters_fault name (valued name) [] enters ∙ valued_none name, not_alone)
reads_valued name enters not_alone (word ∷ []) plain =
    let plain_first = first_plain word [] plain in
    inl (
      enters_fault name (valued name) (word ∷ []) enters ∙ valued_one name word plain_first,
      ap asked (enters_rows name (valued name) (word ∷ []) enters) ∙ ap (asked_by name) (valued_reads name word plain_first),
    )
reads_valued name enters not_alone (word ∷ other ∷ others) plain =
    let after = rest_plain word (other ∷ others) plain in
    inr (
      kind.UnknownArgument,
      [],
      enters_fault name (valued name) (word ∷ other ∷ others) enters
          ∙ valued_more name word other others (first_plain word (other ∷ others) plain) (first_plain other others after),
      refl,
    )

-- ---- the names

enters_assess : Enters (codes "assess") (alone (codes "assess"))
unfolding clap_on_literals
enters_assess = record { step = refl; turn = refl; found = refl }

enters_batch : Enters (codes "batch") (alone (codes "batch"))
unfolding clap_on_literals
enters_batch = record { step = refl; turn = refl; found = refl }

enters_voucher : Enters (codes "voucher") (valued (codes "voucher"))
unfolding clap_on_literals
enters_voucher = record { step = refl; turn = refl; found = refl }

enters_export : Enters (codes "export") (alone (codes "export"))
unfolding clap_on_literals
enters_export = record { step = refl; turn = refl; found = refl }

enters_import : Enters (codes "import") (valued (codes "import"))
unfolding clap_on_literals
enters_import = record { step = refl; turn = refl; found = refl }

enters_due : Enters (codes "due") (valued (codes "due"))
unfolding clap_on_literals
enters_due = record { step = refl; turn = refl; found = refl }

enters_targets : Enters (codes "targets") (valued (codes "targets"))
unfolding clap_on_literals
enters_targets = record { step = refl; turn = refl; found = refl }

enters_make : Enters (codes "make") (valued (codes "make"))
unfolding clap_on_literals
enters_make = record { step = refl; turn = refl; found = refl }

enters_trial : Enters (codes "trial") (valued (codes "trial"))
unfolding clap_on_literals
enters_trial = record { step = refl; turn = refl; found = refl }

same : (a b : Text) → bytes_eq a b ≡ true → a ≡ b
same a b e = (bytes_eq-Decides a b).0 e

flip : (a b : Text) → bytes_eq a b ≡ false → bytes_eq b a ≡ false
flip a b e = false_from_ne_true (bytes_eq b a) (λ t. go (same b a t))
  where
    go : b ≡ a → ⊥
    go p = true≢false (sym ((bytes_eq-Decides a b).1 (sym p)) ∙ e)

-- a word that is no name
record IsNoName (name : Text) : Type 0 where
  assess : bytes_eq (codes "assess") name ≡ false
  batch : bytes_eq (codes "batch") name ≡ false
  voucher : bytes_eq (codes "voucher") name ≡ false
  export : bytes_eq (codes "export") name ≡ false
  import : bytes_eq (codes "import") name ≡ false
  due : bytes_eq (codes "due") name ≡ false
  targets : bytes_eq (codes "targets") name ≡ false
  make : bytes_eq (codes "make") name ≡ false
  trial : bytes_eq (codes "trial") name ≡ false

no_name_met : (name : Text) → IsNoName name → subcommand_met office_names idle name ≡ None
no_name_met name other = rw (other.assess, other.batch, other.voucher, other.export, other.import, other.due, other.targets, other.make, other.trial) refl

no_name_alone : (name : Text) → IsNoName name → subcommand_alone name ≡ None
no_name_alone name other = rw (flip (codes "assess") name other.assess, flip (codes "batch") name other.batch, flip (codes "export") name other.export) refl

no_name_with : (name value : Text) → IsNoName name → subcommand_with name value ≡ None
no_name_with name value other = rw (flip (codes "voucher") name other.voucher, flip (codes "import") name other.import, flip (codes "due") name other.due, flip (codes "targets") name other.targets, flip (codes "make") name other.make, flip (codes "trial") name other.trial) refl

reads_no_name : (name : Text) (rest : List Text) → IsNoName name → HasNoHyphens (name ∷ rest) → Reads (name ∷ rest)
reads_no_name name [] unlike plain =
    inr (kind.UnknownArgument, kind.InvalidSubcommand ∷ [], unknown name [] (no_name_met name unlike) (first_plain name [] plain), no_name_alone name unlike)
reads_no_name name (value ∷ []) unlike plain =
    inr (kind.UnknownArgument, kind.InvalidSubcommand ∷ [], unknown name (value ∷ []) (no_name_met name unlike) (first_plain name (value ∷ []) plain), no_name_with name value unlike)
reads_no_name name (value ∷ other ∷ others) unlike plain =
    inr (kind.UnknownArgument, kind.InvalidSubcommand ∷ [], unknown name (value ∷ other ∷ others) (no_name_met name unlike) (first_plain name (value ∷ other ∷ others) plain), refl)

-- what holds of a name holds of a word that is the same
named : (literal name : Text) (rest : List Text) → bytes_eq literal name ≡ true → Reads (literal ∷ rest) → Reads (name ∷ rest)
named literal name rest e h = subst (λ (n : Text). Reads (n ∷ rest)) (same literal name e) h

reads_named : (name : Text) (rest : List Text) → HasNoHyphens (name ∷ rest) → Reads (name ∷ rest)
reads_named name rest plain =
    let after = rest_plain name rest plain in
    elim (cases_Bool (bytes_eq (codes "assess") name)) [
      | inl is ↦ named (codes "assess") name rest is (reads_alone (codes "assess") enters_assess (λ value. refl) rest after)
      | inr not_assess ↦
          elim (cases_Bool (bytes_eq (codes "batch") name)) [
            | inl is ↦ named (codes "batch") name rest is (reads_alone (codes "batch") enters_batch (λ value. refl) rest after)
            | inr not_batch ↦
                elim (cases_Bool (bytes_eq (codes "voucher") name)) [
                  | inl is ↦ named (codes "voucher") name rest is (reads_valued (codes "voucher") enters_voucher refl rest after)
                  | inr not_voucher ↦
                      elim (cases_Bool (bytes_eq (codes "export") name)) [
                        | inl is ↦ named (codes "export") name rest is (reads_alone (codes "export") enters_export (λ value. refl) rest after)
                        | inr not_export ↦
                            elim (cases_Bool (bytes_eq (codes "import") name)) [
                              | inl is ↦ named (codes "import") name rest is (reads_valued (codes "import") enters_import refl rest after)
                              | inr not_import ↦
                                  elim (cases_Bool (bytes_eq (codes "due") name)) [
                                    | inl is ↦ named (codes "due") name rest is (reads_valued (codes "due") enters_due refl rest after)
                                    | inr not_due ↦
                                        elim (cases_Bool (bytes_eq (codes "targets") name)) [
                                          | inl is ↦ named (codes "targets") name rest is (reads_valued (codes "targets") enters_targets refl rest after)
                                          | inr not_targets ↦
                                              elim (cases_Bool (bytes_eq (codes "make") name)) [
                                                | inl is ↦ named (codes "make") name rest is (reads_valued (codes "make") enters_make refl rest after)
                                                | inr not_make ↦
                                                    elim (cases_Bool (bytes_eq (codes "trial") name)) [
                                                      | inl is ↦ named (codes "trial") name rest is (reads_valued (codes "trial") enters_trial refl rest after)
                                                      | inr not_trial ↦
                                                          reads_no_name name rest (record { assess = not_assess; batch = not_batch; voucher = not_voucher; export = not_export; import = not_import; due = not_due; targets = not_targets; make = not_make; trial = not_trial }) plain
                                                    ]
                                              ]
                                        ]
                                  ]
                            ]
                      ]
                ]
          ]
    ]

pub reads : (words : List Text) → HasNoHyphens words → Reads words
reads [] plain = inr (kind.MissingSubcommand, [], no_words, refl)
reads (name ∷ rest) plain = reads_named name rest plain
