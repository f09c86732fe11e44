-- A token of an id that isn't permitted is refused whatever follows it.
use Rattle.std.proofs.Common.{◌≡◌, ◌≢◌, ℕ, ◌≤◌, inl, inr, Bool, true, false, cond, ltb, eqb, List, [], ◌∷◌, ◌++◌, length, take, drop, Result, Ok, Err, refl, sym, ◌∙◌, ap, subst, append_assoc, arith}
use Rattle.std.specs.List.{list_any}
use Rattle.std.proofs.lemmas.Bool.{ltb-false, le-ltb}
use Rattle.std.proofs.lemmas.List.{length-append, length-take, take-append-drop, take_at}
use Rattle.cbor_profile.specs.Head.{spelling, head_spelling, IsHead}
use Rattle.cbor_profile.specs.Step.{◌>>=◌}
use Rattle.cbor_profile.specs.Token.{token_head}
use Rattle.cbor_profile.specs.declared.head.Head.{Head}
use Rattle.cbor_profile.specs.declared.fault.Reason.{Reason}
use Rattle.cbor_profile.specs.declared.fault.Reason.TheVariants as reasons
use Rattle.bp_eid.specs.declared.eid.Eid.{Eid}
use Rattle.bp_eid.specs.declared.eid.Eid.TheVariants.{Null, Dtn, Ipn}
use Rattle.bp_eid.specs.declared.stop.Stop.{Stop}
use Rattle.bp_eid.specs.DtnText.{is_dtn_text}
use Rattle.bp_eid.specs.Reading as reading
use Rattle.bp_eid.specs.Reading.{stops, at_token, head_at, pair_at, number_at, content_at, dtn_at, ipn_at}
use Rattle.correct_prefix.specs.Prefix.{IsToken}
use Rattle.bp_bundle.proofs.HeadsAsSpelled.{IsBytes}
use Rattle.correct_prefix.proofs.ListStopsBehindPrefix.{stopped, drop_bytes}
use Rattle.correct_prefix.proofs.IdStopsBehindPrefix.{null_or_text}
use Rattle.correct_prefix.proofs.FaultyToken.{token_behind}
use Rattle.correct_prefix.proofs.FaultyHead.{SealLaws, refused_head, whole_head}

-- where reading a list stops, whatever follows the token
pub record SealedList {A : Type 0} (read : List ℕ → Result A Stop) (bytes : List ℕ) (stop : Stop) : Type 0 where
  pub front : List ℕ
  pub token : List ℕ
  pub more : List ℕ
  pub parts : bytes ≡ front ++ (token ++ more)
  pub left : stop.left ≡ length (token ++ more)
  pub is_token : IsToken front token
  pub again : (others : List ℕ) → read (front ++ (token ++ others)) ≡ Err (record { reason = stop.reason; left = length (token ++ others) })

pub list_behind : {A B : Type 0} (read : List ℕ → Result A Stop) (inner : List ℕ → Result B Stop) (text bytes rest : List ℕ) (stop : Stop) → bytes ≡ text ++ rest → ((t : List ℕ) (s : Stop) → inner t ≡ Err s → read (text ++ t) ≡ Err s)
    → SealedList inner rest stop → SealedList read bytes stop
list_behind read inner text bytes rest stop parts same s = record {
  front = text ++ s.front;
  token = s.token;
  more = s.more;
  parts = parts ∙ (ap (λ (l : List ℕ). text ++ l) s.parts ∙ sym (append_assoc text s.front (s.token ++ s.more)));
  left = s.left;
  is_token = token_behind text s.front s.token s.is_token;
  again = λ others. ap read (append_assoc text s.front (s.token ++ others)) ∙ same (s.front ++ (s.token ++ others)) _ (s.again others);
}

-- ---- heads

-- a head that was read, and what follows it
pub record Read (kinds bytes : List ℕ) (x : Head × List ℕ) : Type 0 where
  pub parts : bytes ≡ spelling x.0 ++ x.1
  pub fits : IsBytes x.1
  pub head : IsHead x.0
  pub among : list_any (λ kind. eqb kind x.0.major) kinds ≡ true
  pub again : (t : List ℕ) → head_at kinds (spelling x.0 ++ t) ≡ Ok (x.0, t)

pub read_so : (laws : SealLaws) (kinds bytes : List ℕ) (x : Head × List ℕ) → IsBytes bytes → token_head kinds bytes ≡ Ok x → Read kinds bytes x
read_so laws kinds bytes x fits e =
    let m = laws.laws.heads.means kinds bytes x.0 x.1 fits e in
    record {
      parts = m.0;
      fits = drop_bytes (spelling x.0) x.1 (subst IsBytes m.0 fits);
      head = m.1;
      among = m.2;
      again = λ t. ap (at_token (spelling x.0 ++ t)) (laws.laws.heads.again kinds x.0 t m.1 m.2);
    }

-- a head, and what is made of it
abbrev pub Step : {B : Type 0} → List ℕ → (List ℕ → Head × List ℕ → Result B Stop) → List ℕ → Result B Stop
Step kinds f bytes = head_at kinds bytes >>= f bytes

pub step_sealed : {B : Type 0} (laws : SealLaws) (kinds bytes : List ℕ) (f : List ℕ → Head × List ℕ → Result B Stop) (stop : Stop) → IsBytes bytes → stop.reason ≢ reasons.Truncated → Step kinds f bytes ≡ Err stop
    → ((x : Head × List ℕ) → Read kinds bytes x → f bytes x ≡ Err stop → SealedList (Step kinds f) bytes stop) → SealedList (Step kinds f) bytes stop
step_sealed {B} laws kinds bytes f stop fits other e second = by (token_head kinds bytes) refl e
  where
    by : (r : Result (Head × List ℕ) Reason) → token_head kinds bytes ≡ r → (at_token bytes r >>= f bytes) ≡ Err stop → SealedList (Step kinds f) bytes stop
    by (Ok x) is e = second x (read_so laws kinds bytes x fits is) e
    by (Err reason) is e =
        let s = stopped {A = B} bytes reason stop e in
        let h = refused_head laws kinds bytes reason (λ early. other (s.1 ∙ early)) is in
        record {
          front = [];
          token = h.token;
          more = h.more;
          parts = h.parts;
          left = s.0 ∙ ap length h.parts;
          is_token = h.is_token;
          again = λ others. ap (λ (r : Result (Head × List ℕ) Reason). at_token (h.token ++ others) r >>= f (h.token ++ others)) (h.again others) ∙ ap (λ (r : Reason). Err (record { reason = r; left = length (h.token ++ others) })) (sym s.1);
        }

-- where the head itself is refused
pub head_refused : {B : Type 0} (laws : SealLaws) (kinds bytes : List ℕ) (f : List ℕ → Head × List ℕ → Result B Stop) (stop : Stop) (x : Head × List ℕ) (reason : Reason) → Read kinds bytes x → stops {A = B} bytes reason ≡ Err stop
    → ((t : List ℕ) → f (spelling x.0 ++ t) (x.0, t) ≡ stops (spelling x.0 ++ t) reason) → SealedList (Step kinds f) bytes stop
head_refused {B} laws kinds bytes f stop x reason r e same =
    let s = stopped {A = B} bytes reason stop e in
    let text = spelling x.0 in
    record {
      front = [];
      token = text;
      more = x.1;
      parts = r.parts;
      left = s.0 ∙ ap length r.parts;
      is_token = inr (inl (whole_head laws x.0 r.head));
      again = λ others.
          ap (λ (y : Result (Head × List ℕ) Stop). y >>= f (text ++ others)) (r.again others) ∙ (same others ∙ ap (λ (y : Reason). Err (record { reason = y; left = length (text ++ others) })) (sym s.1));
    }

-- where what follows the head is refused
pub head_then : {B : Type 0} (kinds bytes : List ℕ) (f : List ℕ → Head × List ℕ → Result B Stop) (inner : List ℕ → Result B Stop) (stop : Stop) (x : Head × List ℕ) → Read kinds bytes x → ((t : List ℕ) → f (spelling x.0 ++ t) (x.0, t) ≡ inner t)
    → SealedList inner x.1 stop → SealedList (Step kinds f) bytes stop
head_then kinds bytes f inner stop x r same s =
    list_behind (Step kinds f) inner (spelling x.0) bytes x.1 stop r.parts (λ t own is. ap (λ (y : Result (Head × List ℕ) Stop). y >>= f (spelling x.0 ++ t)) (r.again t) ∙ (same t ∙ is)) s

pub same_reader : {A : Type 0} (read read' : List ℕ → Result A Stop) (bytes : List ℕ) (stop : Stop) → ((b : List ℕ) → read b ≡ read' b) → SealedList read bytes stop → SealedList read' bytes stop
same_reader read read' bytes stop same s =
    record { front = s.front; token = s.token; more = s.more; parts = s.parts; left = s.left; is_token = s.is_token; again = λ others. sym (same (s.front ++ (s.token ++ others))) ∙ s.again others }

pub either : {B : Type 0} (b : Bool) (x y : Result B Stop) (stop : Stop) (Goal : Type 0) → cond b x y ≡ Err stop → (b ≡ true → x ≡ Err stop → Goal) → (b ≡ false → y ≡ Err stop → Goal) → Goal
either true x y stop Goal e f g = f refl e
either false x y stop Goal e f g = g refl e

-- ---- numbers and pairs

pub then_assoc : {A B C : Type 0} (r : Result A Stop) (f : A → Result B Stop) (g : B → Result C Stop) → (r >>= λ x. f x >>= g) ≡ ((r >>= f) >>= g)
then_assoc (Ok x) f g = refl
then_assoc (Err s) f g = refl

abbrev pub valued : Head × List ℕ → Result (ℕ × List ℕ) Stop
valued head = Ok (head.0.value, head.1)

-- a number, and what is made of it
pub number_sealed : {B : Type 0} (laws : SealLaws) (bytes : List ℕ) (f : List ℕ → ℕ × List ℕ → Result B Stop) (stop : Stop) → IsBytes bytes → stop.reason ≢ reasons.Truncated → (number_at bytes >>= f bytes) ≡ Err stop
    → ((x : Head × List ℕ) → Read (0 ∷ []) bytes x → f bytes (x.0.value, x.1) ≡ Err stop → SealedList (Step (0 ∷ []) (λ b h. f b (h.0.value, h.1))) bytes stop) → SealedList (λ b. number_at b >>= f b) bytes stop
unfolding number_at
number_sealed laws bytes f stop fits other e second =
    same_reader (Step (0 ∷ []) (λ b h. f b (h.0.value, h.1))) (λ b. (head_at (0 ∷ []) b >>= valued) >>= f b) bytes stop (λ b. then_assoc (head_at (0 ∷ []) b) valued (f b))
    (step_sealed laws (0 ∷ []) bytes (λ b h. f b (h.0.value, h.1)) stop fits other (then_assoc (head_at (0 ∷ []) bytes) valued (f bytes) ∙ e) second)

abbrev pub counted : {B : Type 0} → (List ℕ → Result B Stop) → List ℕ → Head × List ℕ → Result B Stop
counted f bytes head = cond (eqb head.0.value 2) (Ok head.1) (stops bytes reasons.WrongCount) >>= f

-- the two items of an array
pub pair_sealed : {B : Type 0} (laws : SealLaws) (bytes : List ℕ) (f : List ℕ → Result B Stop) (stop : Stop) → IsBytes bytes → stop.reason ≢ reasons.Truncated → (pair_at bytes >>= f) ≡ Err stop
    → ((rest : List ℕ) → IsBytes rest → f rest ≡ Err stop → SealedList f rest stop) → SealedList (λ b. pair_at b >>= f) bytes stop
unfolding pair_at
pair_sealed {B} laws bytes f stop fits other e second =
    same_reader (Step (4 ∷ []) (counted f)) (λ b. (head_at (4 ∷ []) b >>= λ head. cond (eqb head.0.value 2) (Ok head.1) (stops b reasons.WrongCount)) >>= f) bytes stop (λ b. then_assoc (head_at (4 ∷ []) b) (λ head. cond (eqb head.0.value 2) (Ok head.1) (stops b reasons.WrongCount)) f)
    (step_sealed laws (4 ∷ []) bytes (counted f) stop fits other (then_assoc (head_at (4 ∷ []) bytes) (λ head. cond (eqb head.0.value 2) (Ok head.1) (stops bytes reasons.WrongCount)) f ∙ e) (λ x r k. by x r (eqb x.0.value 2) refl k))
  where
    by : (x : Head × List ℕ) → Read (4 ∷ []) bytes x → (b : Bool) → eqb x.0.value 2 ≡ b → (cond b (Ok x.1) (stops bytes reasons.WrongCount) >>= f) ≡ Err stop → SealedList (Step (4 ∷ []) (counted f)) bytes stop
    by x r true is k = head_then (4 ∷ []) bytes (counted f) f stop x r (λ t. rw is refl) (second x.1 r.fits k)
    by x r false is k = head_refused laws (4 ∷ []) bytes (counted f) stop x reasons.WrongCount r k (λ t. rw is refl)

-- ---- the scheme dtn

abbrev pub with_text : List ℕ × List ℕ → Result (Eid × List ℕ) Stop
with_text text = Ok (Dtn text.0, text.1)

abbrev pub of_dtn : List ℕ → Head × List ℕ → Result (Eid × List ℕ) Stop
of_dtn bytes head =
    cond (eqb head.0.major 0) (cond (eqb head.0.value 0) (Ok (Null, head.1)) (stops bytes reasons.WrongValue)) (cond (ltb 1024 head.0.value) (stops bytes reasons.WrongValue) (content_at head.0.value head.1 >>= with_text))

-- the content that is refused
pub wrong_text : (len : ℕ) (rest : List ℕ) (stop : Stop) → stop.reason ≢ reasons.Truncated → (content_at len rest >>= with_text) ≡ Err stop
    → (len ≤ length rest) × (is_dtn_text (take len rest) ≡ false) × (stop ≡ record { reason = reasons.WrongText; left = length rest })
unfolding content_at
wrong_text len rest stop other e = by (ltb (length rest) len) (is_dtn_text (take len rest)) refl refl e
  where
    by : (short right : Bool) → ltb (length rest) len ≡ short → is_dtn_text (take len rest) ≡ right
        → (cond short (stops rest reasons.Truncated) (cond right (Ok (take len rest, drop len rest)) (stops rest reasons.WrongText)) >>= with_text) ≡ Err stop
        → (len ≤ length rest) × (is_dtn_text (take len rest) ≡ false) × (stop ≡ record { reason = reasons.WrongText; left = length rest })
    by true right is text e = absurd (other (stopped {A = Eid × List ℕ} rest reasons.Truncated stop e).1)
    by false true is text e = absurd cc
    by false false is text e = (ltb-false _ _ is, text, cc)

pub content_refused : (len : ℕ) (token others : List ℕ) → length token ≡ len → is_dtn_text token ≡ false → (content_at len (token ++ others) >>= with_text) ≡ Err (record { reason = reasons.WrongText; left = length (token ++ others) })
unfolding content_at
content_refused len token others long wrong =
    let enough : ltb (length (token ++ others)) len ≡ false = le-ltb _ _ (omega (arith, length-append token others)) in
    rw (enough, take_at token others len long, wrong) refl

pub dtn_sealed : (laws : SealLaws) (bytes : List ℕ) (stop : Stop) → IsBytes bytes → stop.reason ≢ reasons.Truncated → dtn_at bytes ≡ Err stop → SealedList dtn_at bytes stop
unfolding dtn_at spelling
dtn_sealed laws bytes stop fits other e =
    step_sealed laws (0 ∷ 3 ∷ []) bytes of_dtn stop fits other e
    (λ x r k.
    either (eqb x.0.major 0) _ _ stop (SealedList (Step (0 ∷ 3 ∷ []) of_dtn) bytes stop) k
    (λ zero l.
    either (eqb x.0.value 0) (Ok (Null, x.1)) (stops bytes reasons.WrongValue) stop (SealedList (Step (0 ∷ 3 ∷ []) of_dtn) bytes stop) l (λ b m. absurd cc)
    (λ b m. head_refused laws (0 ∷ 3 ∷ []) bytes of_dtn stop x reasons.WrongValue r m (λ t. rw (zero, b) refl)))
    (λ text l.
    either (ltb 1024 x.0.value) (stops bytes reasons.WrongValue) (content_at x.0.value x.1 >>= with_text) stop (SealedList (Step (0 ∷ 3 ∷ []) of_dtn) bytes stop) l
    (λ b m. head_refused laws (0 ∷ 3 ∷ []) bytes of_dtn stop x reasons.WrongValue r m (λ t. rw (text, b) refl)) (λ b m. in_text x r text b m)))
  where
    in_text : (x : Head × List ℕ) → Read (0 ∷ 3 ∷ []) bytes x → eqb x.0.major 0 ≡ false → ltb 1024 x.0.value ≡ false → (content_at x.0.value x.1 >>= with_text) ≡ Err stop → SealedList (Step (0 ∷ 3 ∷ []) of_dtn) bytes stop
    in_text x r text few m =
        let w = wrong_text x.0.value x.1 stop other m in
        let token = take x.0.value x.1 in
        let long : length token ≡ x.0.value = omega (arith, length-take x.0.value x.1, w.0) in
        let whole = take-append-drop x.0.value x.1 in
        let three = null_or_text x.0.major r.among text in
        record {
          front = head_spelling x.0.major x.0.value;
          token = token;
          more = drop x.0.value x.1;
          parts = r.parts ∙ ap (λ (l : List ℕ). head_spelling x.0.major x.0.value ++ l) (sym whole);
          left = ap (λ (s : Stop). s.left) w.2 ∙ ap length (sym whole);
          is_token = inr (inr ([], 3, inr refl, ap (λ (m : ℕ). head_spelling m x.0.value) three ∙ ap (head_spelling 3) (sym long)));
          again = λ others.
              ap (λ (y : Result (Head × List ℕ) Stop). y >>= of_dtn (head_spelling x.0.major x.0.value ++ (token ++ others))) (r.again (token ++ others))
              ∙ (rw (text, few) (content_refused x.0.value token others long w.1) ∙ ap (λ (s : Stop). Err (record { reason = s.reason; left = length (token ++ others) })) (sym w.2));
        }

-- ---- the scheme ipn, and the whole

abbrev pub with_service : ℕ → List ℕ → ℕ × List ℕ → Result (Eid × List ℕ) Stop
with_service node bytes service = Ok (Ipn node service.0, service.1)

abbrev pub with_node : List ℕ → ℕ × List ℕ → Result (Eid × List ℕ) Stop
with_node bytes node = number_at node.1 >>= with_service node.0 node.1

pub ipn_sealed : (laws : SealLaws) (bytes : List ℕ) (stop : Stop) → IsBytes bytes → stop.reason ≢ reasons.Truncated → ipn_at bytes ≡ Err stop → SealedList ipn_at bytes stop
unfolding ipn_at
ipn_sealed laws bytes stop fits other e =
    pair_sealed laws bytes (λ rest. number_at rest >>= with_node rest) stop fits other e
    (λ rest small h.
    number_sealed laws rest with_node stop small other h
    (λ x r k.
    head_then (0 ∷ []) rest (λ b y. with_node b (y.0.value, y.1)) (λ t. number_at t >>= with_service x.0.value t) stop x r (λ t. refl)
    (number_sealed laws x.1 (with_service x.0.value) stop r.fits other k (λ y s m. absurd cc))))

abbrev pub with_scheme : List ℕ → ℕ × List ℕ → Result (Eid × List ℕ) Stop
with_scheme bytes scheme = cond (eqb scheme.0 1) (dtn_at scheme.1) (cond (eqb scheme.0 2) (ipn_at scheme.1) (stops bytes reasons.WrongValue))

pub id_sealed_list : (laws : SealLaws) (bytes : List ℕ) (stop : Stop) → IsBytes bytes → stop.reason ≢ reasons.Truncated → reading.id_at bytes ≡ Err stop → SealedList reading.id_at bytes stop
unfolding reading.id_at
id_sealed_list laws bytes stop fits other e =
    pair_sealed laws bytes (λ rest. number_at rest >>= with_scheme rest) stop fits other e
    (λ rest small h.
    number_sealed laws rest with_scheme stop small other h
    (λ x r k.
    let f : List ℕ → Head × List ℕ → Result (Eid × List ℕ) Stop = λ b y. with_scheme b (y.0.value, y.1) in
    either (eqb x.0.value 1) (dtn_at x.1) _ stop (SealedList (Step (0 ∷ []) f) rest stop) k (λ b l. head_then (0 ∷ []) rest f dtn_at stop x r (λ t. rw b refl) (dtn_sealed laws x.1 stop r.fits other l))
    (λ b l.
    either (eqb x.0.value 2) (ipn_at x.1) (stops rest reasons.WrongValue) stop (SealedList (Step (0 ∷ []) f) rest stop) l (λ d m. head_then (0 ∷ []) rest f ipn_at stop x r (λ t. rw (b, d) refl) (ipn_sealed laws x.1 stop r.fits other m))
    (λ d m. head_refused laws (0 ∷ []) rest f stop x reasons.WrongValue r m (λ t. rw (b, d) refl)))))
