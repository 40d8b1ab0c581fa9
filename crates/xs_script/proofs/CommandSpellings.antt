-- One spelling for each command, and a command has no line feed in it.
use Rattle.std.proofs.Common.{◌≡◌, ℕ, ◌&&◌, ◌==◌, not, Bool, true, false, List, [], ◌∷◌, ◌++◌, refl, sym, ◌∙◌, ap, subst, arith, codes, decimal}
use Rattle.std.specs.Prelude.{if◌then◌else◌}
use Rattle.std.proofs.lemmas.Bool.{and_parts}
use Rattle.std.proofs.lemmas.List.{append_cancel_left}
use Rattle.std.proofs.lemmas.Fmt.{decimal_injective}
use Rattle.hex.specs.Hex.{encode_lower}
use Rattle.std.proofs.Props.{props}
use Rattle.xs_base.specs.declared.words.Set.{Set}
use Rattle.xs_base.specs.declared.words.Set.TheVariants as sets
use Rattle.xs_base.specs.declared.words.Signo.{Signo}
use Rattle.xs_model.specs.declared.script.Command.{Command}
use Rattle.xs_model.specs.declared.script.Command.TheVariants as commands
use Rattle.xs_model.specs.Script.{is_name}
use Rattle.xs_script.specs.ScriptLine.{IsNumber, IsSignal, kill_text, set_word, command_text, IsCommandLine}
use Rattle.xs_base.specs.Bytes.{Lacks}
use Rattle.xs_base.proofs.Cuts.{one_cut}
use Rattle.xs_script.proofs.Cuts.{Lacks-append, Lacks-name, Lacks-set, Lacks-register, Lacks-hex}
use Rattle.xs_script.proofs.Lanes.{one_hex}
use Rattle.xs_script.proofs.Entries.{lacks_feed, one_pair}

-- ---- no command has a line feed in it

-- a test that a word has no line feed
abbrev lacks_test : List ℕ → Bool
lacks_test [] = true
lacks_test (b ∷ bs) = not (b == 10) && lacks_test bs

-- so it lacks one
pub lacks_word : (bs : List ℕ) → lacks_test bs ≡ true → Lacks 10 bs
lacks_word [] h = tt
lacks_word (b ∷ bs) h =
    let p = and_parts (not (b == 10)) (lacks_test bs) h in
    (λ e. let t = rw e at p.0 in cc t, lacks_word bs p.1)

-- two words with a space between them
pub lacks_both : (a b : List ℕ) → Lacks 10 a → Lacks 10 b → Lacks 10 (a ++ 32 ∷ b)
lacks_both a b la lb = Lacks-append 10 a (32 ∷ b) la (λ e. omega arith, lb)

pub lacks_kill : (name : List ℕ) (number : ℕ) → is_name name ≡ true → IsNumber number → Lacks 10 (kill_text name number)
lacks_kill name number fits small =
    Lacks-append 10 (codes "kill ") (name ++ 32 ∷ decimal number) (lacks_word (codes "kill ") refl)
    (lacks_both name (decimal number) (Lacks-name 10 name refl refl fits) (lacks_feed number small))

-- a signal's number is one of 32 bits
pub signal_number : (signo : Signo) → IsNumber signo.number
signal_number signo = let range = signo.in_range in omega (arith, range.1)

pub lacks_command : (command : Command) → IsCommandLine command → Lacks 10 (command_text command)
lacks_command (commands.Set reg bytes) fits =
    Lacks-append 10 (codes "set ") (reg ++ 32 ∷ encode_lower bytes) (lacks_word (codes "set ") refl)
    (lacks_both reg (encode_lower bytes) (Lacks-register 10 reg refl fits.0) (Lacks-hex 10 bytes refl fits.2))
lacks_command (commands.Get reg) fits = Lacks-append 10 (codes "get ") reg (lacks_word (codes "get ") refl) (Lacks-register 10 reg refl fits)
lacks_command (commands.Ksec byte) fits = Lacks-append 10 (codes "ksec ") (encode_lower (byte ∷ [])) (lacks_word (codes "ksec ") refl) (Lacks-hex 10 (byte ∷ []) refl (fits, tt))
lacks_command commands.Tilerelease fits = lacks_word (codes "tilerelease") refl
lacks_command (commands.Perm feature) fits = Lacks-append 10 (codes "perm ") (decimal feature) (lacks_word (codes "perm ") refl) (lacks_feed feature fits)
lacks_command commands.Yield fits = lacks_word (codes "yield") refl
lacks_command (commands.Peek at len) fits =
    Lacks-append 10 (codes "peek ") (decimal at ++ 32 ∷ decimal len) (lacks_word (codes "peek ") refl)
    (lacks_both (decimal at) (decimal len) (lacks_feed at fits.0) (lacks_feed len fits.1))
lacks_command (commands.Poke at bytes) fits =
    Lacks-append 10 (codes "poke ") (decimal at ++ 32 ∷ encode_lower bytes) (lacks_word (codes "poke ") refl)
    (lacks_both (decimal at) (encode_lower bytes) (lacks_feed at fits.0) (Lacks-hex 10 bytes refl fits.2))
lacks_command (commands.Bpeek at len) fits =
    Lacks-append 10 (codes "bpeek ") (decimal at ++ 32 ∷ decimal len) (lacks_word (codes "bpeek ") refl)
    (lacks_both (decimal at) (decimal len) (lacks_feed at fits.0) (lacks_feed len fits.1))
lacks_command (commands.Bpoke at bytes) fits =
    Lacks-append 10 (codes "bpoke ") (decimal at ++ 32 ∷ encode_lower bytes) (lacks_word (codes "bpoke ") refl)
    (lacks_both (decimal at) (encode_lower bytes) (lacks_feed at fits.0) (Lacks-hex 10 bytes refl fits.2))
lacks_command commands.Sigreturn fits = lacks_word (codes "sigreturn") refl
lacks_command (commands.Kill name signo) fits = lacks_kill name signo.number fits (signal_number signo)
lacks_command (commands.Fork name) fits = Lacks-append 10 (codes "fork ") name (lacks_word (codes "fork ") refl) (Lacks-name 10 name refl refl fits)
lacks_command commands.Stop fits = lacks_word (codes "stop") refl
lacks_command (commands.Wait name) fits = Lacks-append 10 (codes "wait ") name (lacks_word (codes "wait ") refl) (Lacks-name 10 name refl refl fits)
lacks_command (commands.Getregs name set) fits =
    Lacks-append 10 (codes "getregs ") (name ++ 32 ∷ set_word set) (lacks_word (codes "getregs ") refl)
    (lacks_both name (set_word set) (Lacks-name 10 name refl refl fits) (Lacks-set 10 set refl refl))
lacks_command (commands.Setregs name set count) fits =
    Lacks-append 10 (codes "setregs ") (name ++ 32 ∷ (set_word set ++ 32 ∷ decimal count)) (lacks_word (codes "setregs ") refl)
    (lacks_both name (set_word set ++ 32 ∷ decimal count) (Lacks-name 10 name refl refl fits.0) (lacks_both (set_word set) (decimal count) (Lacks-set 10 set refl refl) (lacks_feed count fits.1)))
lacks_command (commands.Cont name) fits = Lacks-append 10 (codes "cont ") name (lacks_word (codes "cont ") refl) (Lacks-name 10 name refl refl fits)

-- ---- commands of one text are of one kind

-- the text begins with the word
abbrev pub begins : List ℕ → List ℕ → Bool
begins [] bs = true
begins (p ∷ ps) [] = false
begins (p ∷ ps) (b ∷ bs) = (p == b) && begins ps bs

-- a number for each kind of command
abbrev pub command_kind : Command → ℕ
command_kind (commands.Set reg bytes) = 0
command_kind (commands.Get reg) = 1
command_kind (commands.Ksec byte) = 2
command_kind commands.Yield = 3
command_kind (commands.Fork name) = 4
command_kind (commands.Peek at len) = 5
command_kind (commands.Poke at bytes) = 6
command_kind commands.Sigreturn = 7
command_kind (commands.Kill name signo) = 8
command_kind (commands.Bpeek at len) = 9
command_kind (commands.Bpoke at bytes) = 10
command_kind commands.Stop = 11
command_kind (commands.Wait name) = 12
command_kind (commands.Getregs name set) = 13
command_kind (commands.Setregs name set count) = 14
command_kind (commands.Cont name) = 15
command_kind commands.Tilerelease = 16
command_kind (commands.Perm feature) = 17

-- the same, read from the first word
abbrev pub command_kind_of : List ℕ → ℕ
command_kind_of bs =
    if begins (codes "set ") bs then 0
    else if begins (codes "get ") bs then 1
    else if begins (codes "ksec ") bs then 2
    else if begins (codes "yield") bs then 3
    else if begins (codes "fork ") bs then 4
    else if begins (codes "peek ") bs then 5
    else if begins (codes "poke ") bs then 6
    else if begins (codes "sigreturn") bs then 7
    else if begins (codes "kill ") bs then 8
    else if begins (codes "bpeek ") bs then 9
    else if begins (codes "bpoke ") bs then 10
    else if begins (codes "stop") bs then 11
    else if begins (codes "wait ") bs then 12
    else if begins (codes "getregs ") bs then 13
    else if begins (codes "setregs ") bs then 14
    else if begins (codes "cont ") bs then 15
    else if begins (codes "tilerelease") bs then 16
    else if begins (codes "perm ") bs then 17
    else 18

pub command_kind_is : (k : Command) → command_kind_of (command_text k) ≡ command_kind k
command_kind_is (commands.Set reg bytes) = refl
command_kind_is (commands.Get reg) = refl
command_kind_is (commands.Ksec byte) = refl
command_kind_is commands.Yield = refl
command_kind_is (commands.Fork name) = refl
command_kind_is (commands.Peek at len) = refl
command_kind_is (commands.Poke at bytes) = refl
command_kind_is commands.Sigreturn = refl
command_kind_is (commands.Kill name signo) = refl
command_kind_is (commands.Bpeek at len) = refl
command_kind_is (commands.Bpoke at bytes) = refl
command_kind_is commands.Stop = refl
command_kind_is (commands.Wait name) = refl
command_kind_is (commands.Getregs name set) = refl
command_kind_is (commands.Setregs name set count) = refl
command_kind_is (commands.Cont name) = refl
command_kind_is commands.Tilerelease = refl
command_kind_is (commands.Perm feature) = refl

-- ---- commands of one text are equal

-- one number after a word
pub one_number : (word : List ℕ) (m n : ℕ) → IsNumber m → IsNumber n → word ++ decimal m ≡ word ++ decimal n → m ≡ n
one_number word m n fm fn e = decimal_injective m n (omega arith) (omega arith) (append_cancel_left word _ _ e)

same_command_kind : (a b : Command) → command_text a ≡ command_text b → command_kind a ≡ command_kind b
same_command_kind a b e = sym (command_kind_is a) ∙ ap command_kind_of e ∙ command_kind_is b

-- one register and bytes after a word
one_set : (a b x y : List ℕ) → IsCommandLine (commands.Set a x) → IsCommandLine (commands.Set b y) → command_text (commands.Set a x) ≡ command_text (commands.Set b y) → (a ≡ b) × (x ≡ y)
one_set a b x y fa fb e =
    let tail = append_cancel_left (codes "set ") (a ++ 32 ∷ encode_lower x) (b ++ 32 ∷ encode_lower y) e in
    let cut = one_cut 32 a b (encode_lower x) (encode_lower y) (Lacks-register 32 a refl fa.0) (Lacks-register 32 b refl fb.0) tail in
    (cut.0, one_hex x y fa.2 fb.2 cut.1)

-- one number and bytes after a word
one_poke : (a b : ℕ) (x y : List ℕ) → IsCommandLine (commands.Poke a x) → IsCommandLine (commands.Poke b y) → command_text (commands.Poke a x) ≡ command_text (commands.Poke b y) → (a ≡ b) × (x ≡ y)
one_poke a b x y fa fb e =
    let tail = append_cancel_left (codes "poke ") (decimal a ++ 32 ∷ encode_lower x) (decimal b ++ 32 ∷ encode_lower y) e in
    let cut = one_pair a b (encode_lower x) (encode_lower y) fa.0 fb.0 tail in
    (cut.0, one_hex x y fa.2 fb.2 cut.1)

-- two numbers after a word
one_peek : (a b x y : ℕ) → IsCommandLine (commands.Peek a x) → IsCommandLine (commands.Peek b y) → command_text (commands.Peek a x) ≡ command_text (commands.Peek b y) → (a ≡ b) × (x ≡ y)
one_peek a b x y fa fb e =
    let tail = append_cancel_left (codes "peek ") (decimal a ++ 32 ∷ decimal x) (decimal b ++ 32 ∷ decimal y) e in
    let cut = one_pair a b (decimal x) (decimal y) fa.0 fb.0 tail in
    (cut.0, one_number [] x y fa.1 fb.1 cut.1)

one_bpoke : (a b : ℕ) (x y : List ℕ) → IsCommandLine (commands.Bpoke a x) → IsCommandLine (commands.Bpoke b y) → command_text (commands.Bpoke a x) ≡ command_text (commands.Bpoke b y) → (a ≡ b) × (x ≡ y)
one_bpoke a b x y fa fb e =
    let tail = append_cancel_left (codes "bpoke ") (decimal a ++ 32 ∷ encode_lower x) (decimal b ++ 32 ∷ encode_lower y) e in
    let cut = one_pair a b (encode_lower x) (encode_lower y) fa.0 fb.0 tail in
    (cut.0, one_hex x y fa.2 fb.2 cut.1)

one_bpeek : (a b x y : ℕ) → IsCommandLine (commands.Bpeek a x) → IsCommandLine (commands.Bpeek b y) → command_text (commands.Bpeek a x) ≡ command_text (commands.Bpeek b y) → (a ≡ b) × (x ≡ y)
one_bpeek a b x y fa fb e =
    let tail = append_cancel_left (codes "bpeek ") (decimal a ++ 32 ∷ decimal x) (decimal b ++ 32 ∷ decimal y) e in
    let cut = one_pair a b (decimal x) (decimal y) fa.0 fb.0 tail in
    (cut.0, one_number [] x y fa.1 fb.1 cut.1)

-- register sets of one word are equal
one_set_word : (a b : Set) → set_word a ≡ set_word b → a ≡ b
one_set_word sets.Xstate sets.Xstate e = refl
one_set_word sets.Xstate sets.Fx e = absurd (let k = ap (begins (codes "x")) e in cc k)
one_set_word sets.Fx sets.Xstate e = absurd (let k = ap (begins (codes "x")) e in cc k)
one_set_word sets.Fx sets.Fx e = refl

-- one name and register set after a word, and a number too
one_getregs : (a b : List ℕ) (x y : Set) → is_name a ≡ true → is_name b ≡ true → command_text (commands.Getregs a x) ≡ command_text (commands.Getregs b y) → (a ≡ b) × (x ≡ y)
one_getregs a b x y fa fb e =
    let tail = append_cancel_left (codes "getregs ") (a ++ 32 ∷ set_word x) (b ++ 32 ∷ set_word y) e in
    let cut = one_cut 32 a b (set_word x) (set_word y) (Lacks-name 32 a refl refl fa) (Lacks-name 32 b refl refl fb) tail in
    (cut.0, one_set_word x y cut.1)

one_setregs : (a b : List ℕ) (x y : Set) (m n : ℕ) → is_name a ≡ true → is_name b ≡ true → IsNumber m → IsNumber n → command_text (commands.Setregs a x m) ≡ command_text (commands.Setregs b y n) → (a ≡ b) × (x ≡ y) × (m ≡ n)
one_setregs a b x y m n fa fb fm fn e =
    let tail = append_cancel_left (codes "setregs ") (a ++ 32 ∷ (set_word x ++ 32 ∷ decimal m)) (b ++ 32 ∷ (set_word y ++ 32 ∷ decimal n)) e in
    let cut = one_cut 32 a b (set_word x ++ 32 ∷ decimal m) (set_word y ++ 32 ∷ decimal n) (Lacks-name 32 a refl refl fa) (Lacks-name 32 b refl refl fb) tail in
    let last = one_cut 32 (set_word x) (set_word y) (decimal m) (decimal n) (Lacks-set 32 x refl refl) (Lacks-set 32 y refl refl) cut.1 in
    (cut.0, one_set_word x y last.0, one_number [] m n fm fn last.1)

-- one name and number after a word
pub one_kill : (a b : List ℕ) (m n : ℕ) → is_name a ≡ true → is_name b ≡ true → IsNumber m → IsNumber n → kill_text a m ≡ kill_text b n → (a ≡ b) × (m ≡ n)
one_kill a b m n fa fb fm fn e =
    let tail = append_cancel_left (codes "kill ") (a ++ 32 ∷ decimal m) (b ++ 32 ∷ decimal n) e in
    let cut = one_cut 32 a b (decimal m) (decimal n) (Lacks-name 32 a refl refl fa) (Lacks-name 32 b refl refl fb) tail in
    (cut.0, one_number [] m n fm fn cut.1)

-- signals of one number are the same: that the number is one has one proof
abbrev signal_of : (n : ℕ) → IsSignal n → Signo
signal_of n fits = record { number = n; in_range = fits }

one_range : (n : ℕ) → IsProp (IsSignal n)
one_range n = Prim.hlevel props

pub same_signo : (a b : Signo) → a.number ≡ b.number → a ≡ b
same_signo a b e =
    subst (λ n. (fits : IsSignal n) → a ≡ signal_of n fits) e
    (λ fits. ap (λ (h : IsSignal a.number). signal_of a.number h) (one_range a.number a.in_range fits)) b.in_range

-- commands of one text are equal
pub one_command : (a b : Command) → IsCommandLine a → IsCommandLine b → command_text a ≡ command_text b → a ≡ b
one_command (commands.Set a x) (commands.Set b y) f g e =
    let s = one_set a b x y f g e in
    let ea = s.0 in
    let ex = s.1 in
    cc
one_command (commands.Get a) (commands.Get b) f g e = ap commands.Get (append_cancel_left (codes "get ") a b e)
one_command (commands.Ksec a) (commands.Ksec b) f g e =
    let same = one_hex (a ∷ []) (b ∷ []) (f, tt) (g, tt) (append_cancel_left (codes "ksec ") (encode_lower (a ∷ [])) (encode_lower (b ∷ [])) e) in
    cc same
one_command commands.Tilerelease commands.Tilerelease f g e = refl
one_command (commands.Perm a) (commands.Perm b) f g e = ap commands.Perm (one_number (codes "perm ") a b f g e)
one_command commands.Yield commands.Yield f g e = refl
one_command (commands.Peek a x) (commands.Peek b y) f g e =
    let s = one_peek a b x y f g e in
    let ea = s.0 in
    let ex = s.1 in
    cc
one_command (commands.Poke a x) (commands.Poke b y) f g e =
    let s = one_poke a b x y f g e in
    let ea = s.0 in
    let ex = s.1 in
    cc
one_command commands.Sigreturn commands.Sigreturn f g e = refl
one_command (commands.Kill a s) (commands.Kill b t) f g e =
    let cut = one_kill a b s.number t.number f g (signal_number s) (signal_number t) e in
    let ea = cut.0 in
    let es = same_signo s t cut.1 in
    cc
one_command (commands.Bpeek a x) (commands.Bpeek b y) f g e =
    let s = one_bpeek a b x y f g e in
    let ea = s.0 in
    let ex = s.1 in
    cc
one_command (commands.Bpoke a x) (commands.Bpoke b y) f g e =
    let s = one_bpoke a b x y f g e in
    let ea = s.0 in
    let ex = s.1 in
    cc
one_command commands.Stop commands.Stop f g e = refl
one_command (commands.Wait a) (commands.Wait b) f g e = ap commands.Wait (append_cancel_left (codes "wait ") a b e)
one_command (commands.Getregs a x) (commands.Getregs b y) f g e =
    let s = one_getregs a b x y f g e in
    let ea = s.0 in
    let ex = s.1 in
    cc
one_command (commands.Setregs a x m) (commands.Setregs b y n) f g e =
    let s = one_setregs a b x y m n f.0 g.0 f.1 g.1 e in
    let ea = s.0 in
    let ex = s.1 in
    let em = s.2 in
    cc
one_command (commands.Cont a) (commands.Cont b) f g e = ap commands.Cont (append_cancel_left (codes "cont ") a b e)
one_command (commands.Fork a) (commands.Fork b) f g e = ap commands.Fork (append_cancel_left (codes "fork ") a b e)
one_command a b f g e = let k = same_command_kind a b e in absurd (omega arith)
