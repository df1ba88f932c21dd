-- The names of errors, by their numbers on Linux. (asm-generic/errno-base.h, asm-generic/errno.h)
use Rattle.std.specs.Prelude.{ℕ, List, ◌++◌, ◌==◌, Option, Some, None, codes, decimal, if◌then◌else◌, nat_lt}

-- the names up to 44
unfoldable pub low_name : ℕ → Option (List ℕ)
low_name number =
    if number == 1 then Some (codes "EPERM") else
    if number == 2 then Some (codes "ENOENT") else
    if number == 3 then Some (codes "ESRCH") else
    if number == 4 then Some (codes "EINTR") else
    if number == 5 then Some (codes "EIO") else
    if number == 6 then Some (codes "ENXIO") else
    if number == 7 then Some (codes "E2BIG") else
    if number == 8 then Some (codes "ENOEXEC") else
    if number == 9 then Some (codes "EBADF") else
    if number == 10 then Some (codes "ECHILD") else
    if number == 11 then Some (codes "EAGAIN") else
    if number == 12 then Some (codes "ENOMEM") else
    if number == 13 then Some (codes "EACCES") else
    if number == 14 then Some (codes "EFAULT") else
    if number == 15 then Some (codes "ENOTBLK") else
    if number == 16 then Some (codes "EBUSY") else
    if number == 17 then Some (codes "EEXIST") else
    if number == 18 then Some (codes "EXDEV") else
    if number == 19 then Some (codes "ENODEV") else
    if number == 20 then Some (codes "ENOTDIR") else
    if number == 21 then Some (codes "EISDIR") else
    if number == 22 then Some (codes "EINVAL") else
    if number == 23 then Some (codes "ENFILE") else
    if number == 24 then Some (codes "EMFILE") else
    if number == 25 then Some (codes "ENOTTY") else
    if number == 26 then Some (codes "ETXTBSY") else
    if number == 27 then Some (codes "EFBIG") else
    if number == 28 then Some (codes "ENOSPC") else
    if number == 29 then Some (codes "ESPIPE") else
    if number == 30 then Some (codes "EROFS") else
    if number == 31 then Some (codes "EMLINK") else
    if number == 32 then Some (codes "EPIPE") else
    if number == 33 then Some (codes "EDOM") else
    if number == 34 then Some (codes "ERANGE") else
    if number == 35 then Some (codes "EDEADLK") else
    if number == 36 then Some (codes "ENAMETOOLONG") else
    if number == 37 then Some (codes "ENOLCK") else
    if number == 38 then Some (codes "ENOSYS") else
    if number == 39 then Some (codes "ENOTEMPTY") else
    if number == 40 then Some (codes "ELOOP") else
    if number == 42 then Some (codes "ENOMSG") else
    if number == 43 then Some (codes "EIDRM") else
    if number == 44 then Some (codes "ECHRNG") else
    None

-- the names from 45 to 89
unfoldable pub middle_name : ℕ → Option (List ℕ)
middle_name number =
    if number == 45 then Some (codes "EL2NSYNC") else
    if number == 46 then Some (codes "EL3HLT") else
    if number == 47 then Some (codes "EL3RST") else
    if number == 48 then Some (codes "ELNRNG") else
    if number == 49 then Some (codes "EUNATCH") else
    if number == 50 then Some (codes "ENOCSI") else
    if number == 51 then Some (codes "EL2HLT") else
    if number == 52 then Some (codes "EBADE") else
    if number == 53 then Some (codes "EBADR") else
    if number == 54 then Some (codes "EXFULL") else
    if number == 55 then Some (codes "ENOANO") else
    if number == 56 then Some (codes "EBADRQC") else
    if number == 57 then Some (codes "EBADSLT") else
    if number == 59 then Some (codes "EBFONT") else
    if number == 60 then Some (codes "ENOSTR") else
    if number == 61 then Some (codes "ENODATA") else
    if number == 62 then Some (codes "ETIME") else
    if number == 63 then Some (codes "ENOSR") else
    if number == 64 then Some (codes "ENONET") else
    if number == 65 then Some (codes "ENOPKG") else
    if number == 66 then Some (codes "EREMOTE") else
    if number == 67 then Some (codes "ENOLINK") else
    if number == 68 then Some (codes "EADV") else
    if number == 69 then Some (codes "ESRMNT") else
    if number == 70 then Some (codes "ECOMM") else
    if number == 71 then Some (codes "EPROTO") else
    if number == 72 then Some (codes "EMULTIHOP") else
    if number == 73 then Some (codes "EDOTDOT") else
    if number == 74 then Some (codes "EBADMSG") else
    if number == 75 then Some (codes "EOVERFLOW") else
    if number == 76 then Some (codes "ENOTUNIQ") else
    if number == 77 then Some (codes "EBADFD") else
    if number == 78 then Some (codes "EREMCHG") else
    if number == 79 then Some (codes "ELIBACC") else
    if number == 80 then Some (codes "ELIBBAD") else
    if number == 81 then Some (codes "ELIBSCN") else
    if number == 82 then Some (codes "ELIBMAX") else
    if number == 83 then Some (codes "ELIBEXEC") else
    if number == 84 then Some (codes "EILSEQ") else
    if number == 85 then Some (codes "ERESTART") else
    if number == 86 then Some (codes "ESTRPIPE") else
    if number == 87 then Some (codes "EUSERS") else
    if number == 88 then Some (codes "ENOTSOCK") else
    if number == 89 then Some (codes "EDESTADDRREQ") else
    None

-- the names from 90 on
unfoldable pub high_name : ℕ → Option (List ℕ)
high_name number =
    if number == 90 then Some (codes "EMSGSIZE") else
    if number == 91 then Some (codes "EPROTOTYPE") else
    if number == 92 then Some (codes "ENOPROTOOPT") else
    if number == 93 then Some (codes "EPROTONOSUPPORT") else
    if number == 94 then Some (codes "ESOCKTNOSUPPORT") else
    if number == 95 then Some (codes "EOPNOTSUPP") else
    if number == 96 then Some (codes "EPFNOSUPPORT") else
    if number == 97 then Some (codes "EAFNOSUPPORT") else
    if number == 98 then Some (codes "EADDRINUSE") else
    if number == 99 then Some (codes "EADDRNOTAVAIL") else
    if number == 100 then Some (codes "ENETDOWN") else
    if number == 101 then Some (codes "ENETUNREACH") else
    if number == 102 then Some (codes "ENETRESET") else
    if number == 103 then Some (codes "ECONNABORTED") else
    if number == 104 then Some (codes "ECONNRESET") else
    if number == 105 then Some (codes "ENOBUFS") else
    if number == 106 then Some (codes "EISCONN") else
    if number == 107 then Some (codes "ENOTCONN") else
    if number == 108 then Some (codes "ESHUTDOWN") else
    if number == 109 then Some (codes "ETOOMANYREFS") else
    if number == 110 then Some (codes "ETIMEDOUT") else
    if number == 111 then Some (codes "ECONNREFUSED") else
    if number == 112 then Some (codes "EHOSTDOWN") else
    if number == 113 then Some (codes "EHOSTUNREACH") else
    if number == 114 then Some (codes "EALREADY") else
    if number == 115 then Some (codes "EINPROGRESS") else
    if number == 116 then Some (codes "ESTALE") else
    if number == 117 then Some (codes "EUCLEAN") else
    if number == 118 then Some (codes "ENOTNAM") else
    if number == 119 then Some (codes "ENAVAIL") else
    if number == 120 then Some (codes "EISNAM") else
    if number == 121 then Some (codes "EREMOTEIO") else
    if number == 122 then Some (codes "EDQUOT") else
    if number == 123 then Some (codes "ENOMEDIUM") else
    if number == 124 then Some (codes "EMEDIUMTYPE") else
    if number == 125 then Some (codes "ECANCELED") else
    if number == 126 then Some (codes "ENOKEY") else
    if number == 127 then Some (codes "EKEYEXPIRED") else
    if number == 128 then Some (codes "EKEYREVOKED") else
    if number == 129 then Some (codes "EKEYREJECTED") else
    if number == 130 then Some (codes "EOWNERDEAD") else
    if number == 131 then Some (codes "ENOTRECOVERABLE") else
    if number == 132 then Some (codes "ERFKILL") else
    if number == 133 then Some (codes "EHWPOISON") else
    None

-- the name of a number
abbrev pub error_name : ℕ → Option (List ℕ)
error_name number =
    if nat_lt number 45 then low_name number else (if nat_lt number 90 then middle_name number else high_name number)

-- an error's name, or E and its number where the table has none
abbrev pub name_or_number : ℕ → Option (List ℕ) → List ℕ
name_or_number number None = codes "E" ++ decimal number
name_or_number number (Some name) = name

unfoldable pub error_words : ℕ → List ℕ
error_words number = name_or_number number (error_name number)
