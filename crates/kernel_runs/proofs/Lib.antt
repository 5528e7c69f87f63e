mod Pure
