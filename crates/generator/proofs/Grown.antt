-- A line grows by its parts.
use Rattle.std.proofs.Common.{◌≡◌, ◌∙◌, ◌++◌, ◌∷◌, [], ℕ, List, sym, ap, append_assoc, append-nil, codes, decimal, arith}
use Rattle.std.specs.List.{concat}
use Rattle.std.proofs.lemmas.Fmt.{decimal_digit}
use Rattle.serde_json.specs.Written.{compact_text}
use Rattle.json.specs.Print.{escape_byte}
use Rattle.json_form.specs.Written.{day_data, number_data}
use Rattle.command_forms.specs.Commands.{body_of}
use Rattle.generator.specs.{declared.act.MadeAct.MadeAct, Lines.line_data, Lines.made_line}

concat_more : (parts : List (List ℕ)) (part : List ℕ) → concat (parts ++ part ∷ []) ≡ concat parts ++ part
concat_more [] part = append-nil part
concat_more (first ∷ parts) part = ap (λ t. first ++ t) (concat_more parts part) ∙ sym (append_assoc first (concat parts) part)

-- behind the parts that stand there, one more
grown : (old : List ℕ) (parts : List (List ℕ)) (part before after : List ℕ)
    → before ≡ old ++ concat parts → after ≡ before ++ part → after ≡ old ++ concat (parts ++ part ∷ [])
grown old parts part before after f e =
    e ∙ ap (λ t. t ++ part) f ∙ append_assoc old (concat parts) part ∙ ap (λ t. old ++ t) (sym (concat_more parts part))

abbrev parts_of : List ℕ → List ℕ → List ℕ → List (List ℕ)
parts_of body number day =
    codes "{\"act\":" ∷ body ∷ codes ",\"clerk\":1,\"request\":" ∷ number ∷ codes ",\"today\":" ∷ day ∷ codes "}" ∷ []

line_parts : (request : ℕ) (asked : MadeAct)
    → concat (parts_of (body_of asked.command) (decimal request) (compact_text (day_data asked.day))) ≡ compact_text (line_data request asked)
unfolding escape_byte number_data
line_parts request asked =
    ap (λ clerk. codes "{\"act\":" ++ (body_of asked.command ++ (codes ",\"clerk\":" ++ (clerk ++ (codes ",\"request\":" ++ (decimal request
    ++ (codes ",\"today\":" ++ (compact_text (day_data asked.day) ++ codes "}"))))))))
    (sym (decimal_digit 1 (omega arith)))

pub line_grown : (request : ℕ) (asked : MadeAct) (old body number day t u v w x y z : List ℕ)
    → body ≡ body_of asked.command → number ≡ decimal request → day ≡ compact_text (day_data asked.day)
    → old ≡ [] → t ≡ old ++ codes "{\"act\":" → u ≡ t ++ body → v ≡ u ++ codes ",\"clerk\":1,\"request\":" → w ≡ v ++ number
    → x ≡ w ++ codes ",\"today\":" → y ≡ x ++ day → z ≡ y ++ codes "}"
    → z ≡ made_line (request, asked)
line_grown request asked old body number day t u v w x y z is_body is_number is_day empty e₁ e₂ e₃ e₄ e₅ e₆ e₇ =
    let a = codes "{\"act\":" in
    let c = codes ",\"clerk\":1,\"request\":" in
    let e = codes ",\"today\":" in
    let two = grown [] (a ∷ []) body t u (e₁ ∙ ap (λ text. text ++ a) empty) e₂ in
    let three = grown [] (a ∷ body ∷ []) c u v two e₃ in
    let four = grown [] (a ∷ body ∷ c ∷ []) number v w three e₄ in
    let five = grown [] (a ∷ body ∷ c ∷ number ∷ []) e w x four e₅ in
    let six = grown [] (a ∷ body ∷ c ∷ number ∷ e ∷ []) day x y five e₆ in
    let seven = grown [] (a ∷ body ∷ c ∷ number ∷ e ∷ day ∷ []) (codes "}") y z six e₇ in
    seven ∙ (λ i. concat (parts_of (is_body i) (is_number i) (is_day i))) ∙ line_parts request asked
